use Rattle.std.proofs.Common.{refl, subst, ◌∙◌}
use Rattle.occ_run.specs.Machines.{configuration}
use Rattle.occ_run.specs.occ_usage.Accepted.{IsAccepted}
use Rattle.occ_run_schedule.proofs.Showing.{is_shown, led_there, shown_named}
use Rattle.occ_run_schedule.proofs.following.follow.Goals as goal

pub returns-in_ok-stand-in-None-clause-followed : goal.returns-in_ok-stand-in-None-clause-followed
returns-in_ok-stand-in-None-clause-followed c = is_shown c.args.accepted.now.program (subst IsAccepted c.program.ensures.same c.program.ensures.accepted)
    c.args.schedule c.requires (configuration c.first_missing.new.machine)
    (led_there c.args.accepted.now.program c.args.schedule _ _ _ _ c.in_ok-machine.ensures c.items.ensures c.in-None.is c.in_ok-step.ensures)
    (record { state = c.args.schedule.state; trace = c.in_ok-trace-in-None.trace; stand = c.in_ok-stand-in-None.stand })
    refl (c.in_ok-trace-in-None.ensures ∙ c.trace.ensures) c.in_ok-stand-in-None.ensures
    c.what_is_seen_is_a_trace_of_the_program.ensures c.what_a_stand_shows_belongs_to_the_program.ensures

pub returns-in_ok-stand-in-None-clause-named : goal.returns-in_ok-stand-in-None-clause-named
returns-in_ok-stand-in-None-clause-named c = λ names known. shown_named c.args.accepted.now.program (subst IsAccepted c.program.ensures.same c.program.ensures.accepted)
    c.args.schedule c.requires (configuration c.first_missing.new.machine)
    (led_there c.args.accepted.now.program c.args.schedule _ _ _ _ c.in_ok-machine.ensures c.items.ensures c.in-None.is c.in_ok-step.ensures)
    (record { state = c.args.schedule.state; trace = c.in_ok-trace-in-None.trace; stand = c.in_ok-stand-in-None.stand })
    refl (c.in_ok-trace-in-None.ensures ∙ c.trace.ensures) c.in_ok-stand-in-None.ensures
    names known c.numbers_that_are_followed_lead.ensures c.what_is_seen_is_a_trace_of_the_program.ensures c.events_are_of_the_interface.ensures
