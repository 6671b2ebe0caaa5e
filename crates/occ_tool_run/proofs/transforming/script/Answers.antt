use Rattle.occ_run_schedule.proofs.from_usage.Law.{faultless_keeps}
use Rattle.occ_tool_run.proofs.Engine.{first_there, script_of, steps_there}
use Rattle.occ_tool_run.proofs.transforming.script.Goals as goal

pub write-requires-clause-from : goal.write-requires-clause-from
write-requires-clause-from c =
    first_there c.args.names.now c.args.accepted.now.program c.program-from.result.now c.args.outcome.now c.program-from.ensures.same c.requires.known

pub write-requires-clause-steps : goal.write-requires-clause-steps
write-requires-clause-steps c =
    steps_there c.args.names.now c.args.accepted.now.program c.args.outcome.now c.items.result.now c.items.ensures c.requires.known

pub write-requires-clause-to : goal.write-requires-clause-to
write-requires-clause-to c = c.requires.known.last

pub returns-clause-written : goal.returns-clause-written
returns-clause-written c =
    let p = c.args.accepted.now.program in
    script_of c.steps_keep_the_meaning.ensures c.args.names.now p c.program-from.result.now c.args.outcome.now c.items.result.now
    c.in_ok-text.text c.program-from.ensures.same c.items.ensures (faultless_keeps p c.args.accepted.now.kept) c.requires.outcome
    c.in_ok-text.ensures
