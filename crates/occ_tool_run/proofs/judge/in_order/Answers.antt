use Rattle.occ_tool_run.proofs.Pairs.{refuse_first, refuse_second, settle}
use Rattle.occ_tool_run.proofs.judge.in_order.Goals as goal

pub returns-in-Err-clause-settles : goal.returns-in-Err-clause-settles
returns-in-Err-clause-settles c = refuse_first c.args.question c.refused.result c.args.first.now c.args.second.now _ c.in-Err.refusal c.refused.ensures.refused c.in-Err.ensures.refused

pub returns-in-Err-accept-clause-settles : goal.returns-in-Err-accept-clause-settles
returns-in-Err-accept-clause-settles c =
    refuse_second c.args.question c.refused-in-Err-accept.result c.args.first.now c.args.second.now _ _ c.in-Ok.accepted.program c.in-Err-accept.refusal c.in-Ok.ensures.accepted
    c.refused-in-Err-accept.ensures.refused c.in-Err-accept.ensures.refused

pub returns-clause-settles : goal.returns-clause-settles
returns-clause-settles c =
    settle c.args.question c.reply.result c.args.first.now c.args.second.now _ _ c.in-Ok.accepted.program c.in-Ok-accept.accepted.program c.in-Ok.ensures.accepted c.in-Ok-accept.ensures.accepted
    c.reply.ensures.settles
