use Rattle.std.proofs.Common.{◌<◌, length, arith}
use Rattle.occ_law_shape.proofs.Fronts.{branches_front}
use Rattle.occ_law_alt.proofs.Without.{here_lacked, lacks_turn}
use Rattle.occ_law_alt.proofs.lacking.lacking.Goals as goal

pub loop-rest-preserved : goal.loop-rest-preserved
loop-rest-preserved c = λ b w p.
    let some : 0 < length c.loop-rest.rest.now = omega arith in
    lacks_turn b w p c.branch-item.result _ _ _ _ (branches_front c.loop-rest.rest.now c.branch-item.result some c.branch-item.is) c.in-Some.ensures (c.loop-rest.invariant b w p)

pub returns-in-None : goal.returns-in-None
returns-in-None c =
    let some : 0 < length c.loop-rest.rest.now = omega arith in
    (c.loop-rest.invariant _ _ _).0 (here_lacked c.branch-item.result _ _ _ (branches_front c.loop-rest.rest.now c.branch-item.result some c.branch-item.is) (c.same_branches.ensures.0 c.if-same_branches.true))
