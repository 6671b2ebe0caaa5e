use Rattle.std.proofs.Common.{◌<◌, length, arith}
use Rattle.occ_law_shape.proofs.Fronts.{branches_end, branches_front}
use Rattle.occ_law_alt.proofs.Begun.{behind_differs, behind_step, behind_whole}
use Rattle.occ_law_alt.proofs.fronts.behind.Goals as goal

pub returns-in-None : goal.returns-in-None
returns-in-None c =
    let some : 0 < length c.loop-front.front.now = omega arith in
    behind_differs _ _ _ _ _ _ (branches_front c.loop-front.front.now c.branch-item.result some c.branch-item.is) c.in-None.ensures c.loop-front.invariant

pub loop-front-preserved : goal.loop-front-preserved
loop-front-preserved c =
    let some : 0 < length c.loop-front.front.now = omega arith in
    behind_step _ _ _ _ _ _ _ (branches_front c.loop-front.front.now c.branch-item.result some c.branch-item.is) c.in-Some.ensures c.loop-front.invariant

pub returns : goal.returns
returns c =
    let none : length c.loop-front.front.now < 1 = omega arith in
    behind_whole _ _ _ _ (branches_end c.loop-front.front.now none) c.loop-front.invariant
