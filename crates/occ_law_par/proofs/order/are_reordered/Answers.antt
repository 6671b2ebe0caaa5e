use Rattle.std.proofs.Common.{◌≡◌, ◌<◌, length, arith}
use Rattle.occ_syntax.proofs.Rows.{refuted}
use Rattle.occ_law_shape.proofs.Fronts.{trees_end, trees_front}
use Rattle.occ_law_par.proofs.Reordering.{cancelled, emptied, missing}
use Rattle.occ_law_par.proofs.order.are_reordered.Goals as goal

pub returns-then-not-cancel : goal.returns-then-not-cancel
returns-then-not-cancel c =
    let some : 0 < length c.loop-rest.rest.now = omega arith in
    refuted (missing _ _ _ _ (trees_front c.loop-rest.rest.now c.part-item.result some c.part-item.is) c.if-not-cancel.ensures c.loop-rest.invariant)

pub loop-rest-preserved : goal.loop-rest-preserved
loop-rest-preserved c =
    let some : 0 < length c.loop-rest.rest.now = omega arith in
    cancelled _ _ _ _ _ (trees_front c.loop-rest.rest.now c.part-item.result some c.part-item.is) c.if-not-cancel.ensures c.loop-rest.invariant

pub returns : goal.returns
returns c =
    let none : length c.loop-rest.rest.now < 1 = omega arith in
    let size : length c.loop-rest.remaining.items ≡ c.loop-rest.remaining.len = omega arith in
    emptied _ c.loop-rest.remaining.items _ _ (trees_end c.loop-rest.rest.now none) size c.is_empty.ensures c.loop-rest.invariant
