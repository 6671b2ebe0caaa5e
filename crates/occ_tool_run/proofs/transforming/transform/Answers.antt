use Rattle.occ_tool_run.proofs.Engine.{names_from, refuse_transforming, take_transforming}
use Rattle.occ_tool_run.proofs.transforming.transform.Goals as goal

pub transform_text-requires-clause-known : goal.transform_text-requires-clause-known
transform_text-requires-clause-known c = names_from c.read_programs_have_known_names.ensures c.args.program.now _ _ c.in-Ok.accepted.program c.in-Ok.ensures.accepted

pub returns-in-Ok-clause-transforms : goal.returns-in-Ok-clause-transforms
returns-in-Ok-clause-transforms c =
    take_transforming c.transform_text.result c.args.program.now c.args.text.now _ _ c.in-Ok.accepted.program c.new-names.ensures c.in-Ok.ensures.accepted c.transform_text.ensures.transformed

pub returns-in-Err-clause-transforms : goal.returns-in-Err-clause-transforms
returns-in-Err-clause-transforms c =
    refuse_transforming c.refused.result c.args.program.now c.args.text.now _ _ c.in-Err.refusal c.new-names.ensures c.refused.ensures.refused c.in-Err.ensures.refused
