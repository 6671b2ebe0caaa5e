use Rattle.occ_tool_run.proofs.Pairs.{refuse_behind, refuse_turned, settle_turned}
use Rattle.occ_tool_run.proofs.judge.turned.Goals as goal

pub returns-in-Err-clause-settles : goal.returns-in-Err-clause-settles
returns-in-Err-clause-settles c =
    refuse_behind c.args.question c.refused_behind.result c.args.first.now c.args.second.now _ c.in-Err.refusal c.in-Err.ensures.refused c.refused_behind.ensures.known c.refused_behind.ensures.told

pub returns-in-Ok-accept-clause-settles : goal.returns-in-Ok-accept-clause-settles
returns-in-Ok-accept-clause-settles c =
    settle_turned c.args.question c.reply.result c.args.first.now c.args.second.now _ _ c.in-Ok-accept.left.program c.in-Ok.accepted.program c.in-Ok.ensures.accepted c.in-Ok-accept.ensures.accepted
    c.reply.ensures.settles

pub returns-clause-settles : goal.returns-clause-settles
returns-clause-settles c =
    refuse_turned c.args.question c.refused.result c.args.first.now c.args.second.now _ _ c.in-Ok.accepted.program c.in-Err-accept.refusal c.in-Ok.ensures.accepted c.refused.ensures.refused
    c.in-Err-accept.ensures.refused
