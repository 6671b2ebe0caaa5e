use Rattle.std.proofs.Common.{◌≡◌, length, arith, ap}
use Rattle.occ_parse_unroll.proofs.Lines.{lines_at, lines-and}
use Rattle.occ_parse_unroll.proofs.Numbered.{again_more, again_nothing, parts_numbered, options_numbered}
use Rattle.occ_parse_unroll.proofs.lined.+lined.Goals as goal

pub add_parts-add_part-requires : goal.add_parts-add_part-requires
add_parts-add_part-requires t c =
    let e = lines_at _ _ _ _ _ _ c.loop-node-test.true c.node-item.is c.seen-line.ensures in
    (omega (arith, lines-and _ _ _ _ _ e, c.decreases, c.loop-node.invariant.left), tt)

pub add_parts-loop-node-preserved : goal.add_parts-loop-node-preserved
add_parts-loop-node-preserved t c =
    let e = lines_at _ _ _ _ _ _ c.loop-node-test.true c.node-item.is c.seen-line.ensures in
    record {
      whole = parts_numbered _ _ _ _ _ e _ _ _ c.in_ok-add_part.ensures c.loop-node.invariant.whole;
      left = omega (arith, lines-and _ _ _ _ _ e, c.loop-node.invariant.left);
    }

pub add_options-add_option-requires : goal.add_options-add_option-requires
add_options-add_option-requires t c =
    let e = lines_at _ _ _ _ _ _ c.loop-node-test.true c.node-item.is c.seen.ensures in
    (omega (arith, lines-and _ _ _ _ _ e, c.decreases, c.loop-node.invariant.left), tt)

pub add_options-loop-node-preserved : goal.add_options-loop-node-preserved
add_options-loop-node-preserved t c =
    let e = lines_at _ _ _ _ _ _ c.loop-node-test.true c.node-item.is c.seen.ensures in
    record {
      whole = options_numbered _ _ _ _ _ e _ _ _ c.in_ok-add_option.ensures c.loop-node.invariant.whole;
      left = omega (arith, lines-and _ _ _ _ _ e, c.loop-node.invariant.left);
    }

pub add_part_copies-loop-preserved : goal.add_part_copies-loop-preserved
add_part_copies-loop-preserved t c = again_more _ _ _ _ _ _ c.loop-test.true c.in_ok-add_parts.ensures c.loop.invariant

pub add_option_copies-loop-preserved : goal.add_option_copies-loop-preserved
add_option_copies-loop-preserved t c = again_more _ _ _ _ _ _ c.loop-test.true c.in_ok-add_options.ensures c.loop.invariant

pub add_option_copies-returns-then-items-before : goal.add_option_copies-returns-then-items-before
add_option_copies-returns-then-items-before t c =
    let same : length c.add_options.new.lines ≡ length c.loop.lines = omega (arith, ap length c.items.ensures, ap length c.items-before.ensures, c.if-items-before.true) in
    again_nothing _ _ _ _ _ c.in_ok-add_options.ensures same c.loop.invariant
