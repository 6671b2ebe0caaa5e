use Rattle.occ_tool_run.specs.Derived.{IsDerived}
use Rattle.occ_tool_run.specs.Stored.{OfStored}
use Rattle.occ_tool_run.proofs.Judging.{refuse, take_stored}
use Rattle.occ_tool_run.proofs.to_normal.derive.Goals as goal

pub returns-in-Ok-clause-derives : goal.returns-in-Ok-clause-derives
returns-in-Ok-clause-derives c =
    take_stored c.derive_program.result c.args.program.now _ c.in-Ok.accepted.program IsDerived c.in-Ok.ensures.accepted c.derive_program.ensures.derived

pub returns-in-Err-clause-derives : goal.returns-in-Err-clause-derives
returns-in-Err-clause-derives c =
    refuse c.refused.result c.args.program.now _ c.in-Err.refusal (OfStored IsDerived) c.refused.ensures.refused c.in-Err.ensures.refused
