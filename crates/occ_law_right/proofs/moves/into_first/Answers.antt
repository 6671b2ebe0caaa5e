use Rattle.std.proofs.Common.{◌<◌, length, arith}
use Rattle.occ_law_seq.proofs.from_law_shape.Fronts.{trees_front}
use Rattle.occ_law_right.proofs.Sides.{in_first_only}
use Rattle.occ_law_right.proofs.moves.into_first.Goals as goal

pub returns-in_ok-beside-in-Par : goal.returns-in_ok-beside-in-Par
returns-in_ok-beside-in-Par c =
    let some : 0 < length c.in-Par.parts.now = omega arith in
    in_first_only _ _ _ _ _ _ _ _ c.in-Par.ensures (trees_front c.in-Par.parts.now c.first-item.result some c.first-item.is) (c.in_ok-is_spared-in-Par.ensures.0 c.if-not-is_spared.false) c.in_ok-over-in-Par.ensures c.in_ok-beside-in-Par.ensures
