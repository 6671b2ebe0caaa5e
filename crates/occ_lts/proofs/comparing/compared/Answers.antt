use Rattle.occ_tool_run.specs.occ_behaviour.declared.behaviour.Side.TheVariants.{First, Second}
use Rattle.occ_lts.proofs.TracesTold.{refuse_first, refuse_second, refused_fits, refused_own, settle}
use Rattle.occ_lts.proofs.comparing.compared.Goals as goal

pub returns-in-Err-clause-compares : goal.returns-in-Err-clause-compares
returns-in-Err-clause-compares c = refuse_first c.refused.result c.args.first.now c.args.second.now _ c.in-Err.refusal c.refused.ensures.refused c.in-Err.ensures.refused

pub returns-in-Err-clause-status : goal.returns-in-Err-clause-status
returns-in-Err-clause-status c = refused_own c.refused.result _ First c.in-Err.refusal c.refused.ensures.refused

pub returns-in-Err-clause-usage : goal.returns-in-Err-clause-usage
returns-in-Err-clause-usage c = refused_fits c.refused.result _ First c.in-Err.refusal c.refused.ensures.refused

pub returns-in-Err-accept-clause-compares : goal.returns-in-Err-accept-clause-compares
returns-in-Err-accept-clause-compares c =
    refuse_second c.refused-in-Err-accept.result c.args.first.now c.args.second.now _ _ c.in-Ok.accepted.program c.in-Err-accept.refusal c.in-Ok.ensures.accepted
    c.refused-in-Err-accept.ensures.refused c.in-Err-accept.ensures.refused

pub returns-in-Err-accept-clause-status : goal.returns-in-Err-accept-clause-status
returns-in-Err-accept-clause-status c = refused_own c.refused-in-Err-accept.result _ Second c.in-Err-accept.refusal c.refused-in-Err-accept.ensures.refused

pub returns-in-Err-accept-clause-usage : goal.returns-in-Err-accept-clause-usage
returns-in-Err-accept-clause-usage c = refused_fits c.refused-in-Err-accept.result _ Second c.in-Err-accept.refusal c.refused-in-Err-accept.ensures.refused

pub returns-clause-compares : goal.returns-clause-compares
returns-clause-compares c = settle c.compare.result c.args.first.now c.args.second.now _ _ c.in-Ok.accepted.program c.in-Ok-accept.accepted.program c.in-Ok.ensures.accepted
    c.in-Ok-accept.ensures.accepted c.compare.ensures.compares
