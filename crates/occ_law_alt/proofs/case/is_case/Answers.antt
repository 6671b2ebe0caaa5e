use Rattle.std.proofs.Common.{◌<◌, length, arith, sym, true≢false, ◌∙◌}
use Rattle.occ_syntax.specs.View.{exp}
use Rattle.occ_syntax.proofs.Rows.{confirmed}
use Rattle.occ_law_shape.proofs.Fronts.{branches_front}
use Rattle.occ_law_alt.specs.Places.{case_here}
use Rattle.occ_law_alt.proofs.Cased.{case_turn}
use Rattle.occ_law_alt.proofs.case.is_case.Goals as goal

pub loop-rest-preserved : goal.loop-rest-preserved
loop-rest-preserved c =
    let some : 0 < length c.loop-rest.rest.now = omega arith in
    case_turn (exp c.args.condition.now) c.branch-item.result _ _ _ _ _ _ (branches_front c.loop-rest.rest.now c.branch-item.result some c.branch-item.is) c.in-Some.ensures c.in-Some-after.ensures
    (λ h. true≢false (sym (c.is_case_here.ensures.1 h) ∙ c.loop-rest-test.true)) c.loop-rest.invariant

pub returns : goal.returns
returns c = confirmed (c.loop-rest.invariant.0 (case_here (c.is_case_here.ensures.0 c.loop-rest-test.false)))
