use Rattle.std.proofs.Common.{arith}
use Rattle.occ_parse.proofs.from_parse_unroll.Lines.{lines_at, lines-and}
use Rattle.occ_place.proofs.walking.+places.Goals as goal

pub slots-process-requires : goal.slots-process-requires
slots-process-requires t c =
    let e = lines_at _ _ _ _ _ _ c.loop-node-test.true c.node-item.is c.seen-line.ensures in
    (omega (arith, lines-and _ _ _ _ _ e, c.decreases, c.loop-node.invariant), tt)

pub slots-loop-node-preserved : goal.slots-loop-node-preserved
slots-loop-node-preserved t c =
    let e = lines_at _ _ _ _ _ _ c.loop-node-test.true c.node-item.is c.seen-line.ensures in
    omega (arith, lines-and _ _ _ _ _ e, c.loop-node.invariant)

pub options-option_copies-requires : goal.options-option_copies-requires
options-option_copies-requires t c =
    let e = lines_at _ _ _ _ _ _ c.loop-node-test.true c.node-item.is c.seen-line.ensures in
    (omega (arith, lines-and _ _ _ _ _ e, c.decreases, c.loop-node.invariant), tt)

pub options-slots-requires : goal.options-slots-requires
options-slots-requires t c =
    let e = lines_at _ _ _ _ _ _ c.loop-node-test.true c.node-item.is c.seen-line.ensures in
    (omega (arith, lines-and _ _ _ _ _ e, c.decreases, c.loop-node.invariant), tt)

pub options-loop-node-preserved : goal.options-loop-node-preserved
options-loop-node-preserved t c =
    let e = lines_at _ _ _ _ _ _ c.loop-node-test.true c.node-item.is c.seen-line.ensures in
    omega (arith, lines-and _ _ _ _ _ e, c.loop-node.invariant)
