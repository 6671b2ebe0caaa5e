use Rattle.occ_tool_run.proofs.Judging.{refuse_judging, take_judging}
use Rattle.occ_tool_run.proofs.member.belongs.Goals as goal

pub returns-in-Ok-clause-judges : goal.returns-in-Ok-clause-judges
returns-in-Ok-clause-judges c = take_judging c.judge_text.result c.args.program.now c.args.text.now _ c.in-Ok.accepted.program c.in-Ok.ensures.accepted c.judge_text.ensures.judged

pub returns-in-Err-clause-judges : goal.returns-in-Err-clause-judges
returns-in-Err-clause-judges c = refuse_judging c.refused.result c.args.program.now c.args.text.now _ c.in-Err.refusal c.refused.ensures.refused c.in-Err.ensures.refused

pub judge_text-requires-clause-distinct : goal.judge_text-requires-clause-distinct
judge_text-requires-clause-distinct c = c.in-Ok.ensures.distinct
