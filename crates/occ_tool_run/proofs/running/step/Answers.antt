use Rattle.occ_tool_run.proofs.Scheduled.{known_from, refuse_running, take_running}
use Rattle.occ_tool_run.proofs.running.step.Goals as goal

pub run_text-requires-clause-known : goal.run_text-requires-clause-known
run_text-requires-clause-known c = known_from c.args.program.now _ _ c.in-Ok.accepted.program c.in-Ok.ensures.accepted

pub returns-in-Ok-clause-steps : goal.returns-in-Ok-clause-steps
returns-in-Ok-clause-steps c = take_running c.run_text.result c.args.program.now c.args.text.now _ c.in-Ok.accepted.program c.in-Ok.ensures.accepted c.run_text.ensures.run

pub returns-in-Err-clause-steps : goal.returns-in-Err-clause-steps
returns-in-Err-clause-steps c = refuse_running c.refused.result c.args.program.now c.args.text.now _ c.in-Err.refusal c.refused.ensures.refused c.in-Err.ensures.refused
