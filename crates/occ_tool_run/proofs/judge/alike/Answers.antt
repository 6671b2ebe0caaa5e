use Rattle.occ_tool_run.proofs.Pairs.{refuse_alike, settle_alike}
use Rattle.occ_tool_run.proofs.judge.alike.Goals as goal

pub returns-in-Ok-clause-settles : goal.returns-in-Ok-clause-settles
returns-in-Ok-clause-settles c = settle_alike c.args.question c.reply.result c.args.text.now _ c.in-Ok.accepted.program c.in-Ok.ensures.accepted c.reply.ensures.settles

pub returns-in-Err-clause-settles : goal.returns-in-Err-clause-settles
returns-in-Err-clause-settles c = refuse_alike c.args.question c.refused.result c.args.text.now _ c.in-Err.refusal c.refused.ensures.refused c.in-Err.ensures.refused
