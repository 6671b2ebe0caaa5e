use Rattle.occ_run.specs.Machines.{configuration}
use Rattle.occ_stepped.proofs.Arrived.{led_there, params_there}
use Rattle.occ_stepped.proofs.leading.lead.Goals as goal

pub returns-clause-params : goal.returns-clause-params
returns-clause-params c =
    params_there c.numbers_that_are_followed_lead.ensures c.args.accepted.now.program c.args.schedule.now (configuration c.first_missing.new.machine)
    (led_there c.args.accepted.now.program c.args.schedule.now _ _ _ _ c.in_ok-machine.ensures c.items.ensures c.in-None.is c.in_ok-step.ensures)
