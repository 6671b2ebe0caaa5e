use Rattle.std.proofs.Common.{◌<◌, length, arith, sym, true≢false, ◌∙◌}
use Rattle.occ_syntax.proofs.Rows.{confirmed}
use Rattle.occ_law_shape.proofs.Fronts.{branches_front}
use Rattle.occ_law_alt.specs.Places.{here}
use Rattle.occ_law_alt.proofs.Sought.{turns}
use Rattle.occ_law_alt.proofs.search.somewhere.Goals as goal

pub loop-rest-preserved : goal.loop-rest-preserved
loop-rest-preserved g c =
    let some : 0 < length c.loop-rest.rest.now = omega arith in
    turns (g.P.BranchPlace.joins c.args.place.now) c.branch-item.result _ _ _ _ (branches_front c.loop-rest.rest.now c.branch-item.result some c.branch-item.is) c.in-Some.ensures
    (λ j. true≢false (sym (c.holds.ensures.1 j) ∙ c.loop-rest-test.true)) c.loop-rest.invariant

pub returns : goal.returns
returns g c = confirmed (c.loop-rest.invariant.0 (here (c.holds.ensures.0 c.loop-rest-test.false)))
