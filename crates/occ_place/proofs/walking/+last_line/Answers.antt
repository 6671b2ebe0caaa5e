use Rattle.std.proofs.Common.{arith}
use Rattle.occ_parse.proofs.from_parse_unroll.Lines.{lines_at, lines-and}
use Rattle.occ_place.proofs.walking.+last_line.Goals as goal

pub last_line-requires : goal.last_line-requires
last_line-requires t c =
    let e = lines_at _ _ _ _ _ _ c.loop-node-test.true c.node-item.is c.seen-line.ensures in
    (omega (arith, lines-and _ _ _ _ _ e, c.decreases, c.loop-node.invariant), tt)

pub loop-node-preserved : goal.loop-node-preserved
loop-node-preserved t c =
    let e = lines_at _ _ _ _ _ _ c.loop-node-test.true c.node-item.is c.seen-line.ensures in
    omega (arith, lines-and _ _ _ _ _ e, c.loop-node.invariant)
