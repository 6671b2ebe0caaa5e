use Rattle.std.proofs.Common.{◌≡◌, min, arith, sym, ◌∙◌}
use Rattle.occ_parse_forms.specs.Shape.{shape}
use Rattle.occ_parse_rules.specs.Forest.{forest}
use Rattle.occ_parse_unroll.specs.Bits.{bits_below}
use Rattle.occ_parse_unroll.proofs.Lines.{lines_at, lines-and}
use Rattle.occ_parse_unroll.proofs.Wide.{wide_line_same, wide_behind}
use Rattle.occ_parse_unroll.proofs.bits.+wide.Goals as goal

pub deeper_wide-returns-then-has_copies : goal.deeper_wide-returns-then-has_copies
deeper_wide-returns-then-has_copies t c =
    let q : min 25 c.bits_below.result ≡ min 25 (bits_below c.args.here (shape c.args.form.now)) = omega (arith, c.bits_below.ensures.sum) in
    c.wide.ensures
    ∙ wide_line_same _ _ _ _ (forest c.args.below.now) q q
    ∙ rw (sym c.has_copies.ensures ∙ c.if-has_copies.true)

pub wide-deeper_wide-requires : goal.wide-deeper_wide-requires
wide-deeper_wide-requires t c =
    let e = lines_at _ _ _ _ _ _ c.loop-node-test.true c.node-item.is c.seen-line.ensures in
    (omega (arith, lines-and _ _ _ _ _ e, c.decreases, c.loop-node.invariant.left), c.loop-node.invariant.few)

pub wide-loop-node-preserved : goal.wide-loop-node-preserved
wide-loop-node-preserved t c =
    let e = lines_at _ _ _ _ _ _ c.loop-node-test.true c.node-item.is c.seen-line.ensures in
    record {
      same = wide_behind _ _ _ _ _ e _ _ _ _ (sym c.is_wide.ensures ∙ c.if-is_wide.false) c.in_default.ensures c.bits_behind-here.ensures.sum c.loop-node.invariant.same;
      few = c.bits_behind-here.ensures.few;
      left = omega (arith, lines-and _ _ _ _ _ e, c.loop-node.invariant.left);
    }
