use Rattle.occ_run_schedule.specs.occ_behaviour.declared.behaviour.Side.TheVariants.{Second}
use Rattle.occ_tool_run.specs.Judged.{IsRefusalAnswer}
use Rattle.occ_tool_run.proofs.Judging.{refuse, take}
use Rattle.occ_tool_run.proofs.Pairs.{not_memory}
use Rattle.occ_tool_run.proofs.judge.refused_behind.Goals as goal

pub returns-in-Ok-clause-told : goal.returns-in-Ok-clause-told
returns-in-Ok-clause-told c =
    take c.refused.result c.args.first.now _ c.in-Ok._accepted.program (λ new p. IsRefusalAnswer c.args.names Second c.args.refusal) c.in-Ok.ensures.accepted c.refused.ensures.refused

pub returns-in-Err-clause-told : goal.returns-in-Err-clause-told
returns-in-Err-clause-told c =
    refuse c.refused-in-Err.result c.args.first.now _ c.in-Err.refusal (λ new p. IsRefusalAnswer c.args.names Second c.args.refusal) c.refused-in-Err.ensures.refused c.in-Err.ensures.refused

pub returns-in-Ok-clause-known : goal.returns-in-Ok-clause-known
returns-in-Ok-clause-known c = not_memory c.refused.result c.args.refusal c.is_memory.result c.if-is_memory.false c.is_memory.ensures.1

pub returns-in-Err-clause-known : goal.returns-in-Err-clause-known
returns-in-Err-clause-known c = not_memory c.refused-in-Err.result c.args.refusal c.is_memory.result c.if-is_memory.false c.is_memory.ensures.1
