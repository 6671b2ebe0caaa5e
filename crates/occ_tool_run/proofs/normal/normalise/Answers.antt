use Rattle.occ_tool_run.specs.Answers.{IsNormalised}
use Rattle.occ_tool_run.proofs.Judging.{refuse, take}
use Rattle.occ_tool_run.proofs.normal.normalise.Goals as goal

pub returns-in-Ok-clause-normalises : goal.returns-in-Ok-clause-normalises
returns-in-Ok-clause-normalises c = take c.write.result c.args.program.now _ c.in-Ok.accepted.program IsNormalised c.in-Ok.ensures.accepted c.write.ensures.normalised

pub returns-in-Err-clause-normalises : goal.returns-in-Err-clause-normalises
returns-in-Err-clause-normalises c = refuse c.refused.result c.args.program.now _ c.in-Err.refusal IsNormalised c.refused.ensures.refused c.in-Err.ensures.refused
