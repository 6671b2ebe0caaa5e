use Rattle.std.proofs.Common.{min, arith, ap, ◌∙◌}
use Rattle.occ_parse_unroll.specs.Sizes.{names_in}
use Rattle.occ_parse_unroll.proofs.Lines.{lines_at, lines-and}
use Rattle.occ_parse_unroll.proofs.Steps.{parts_declaration, parts_process, first_declaration, cases_more, branches_more}
use Rattle.occ_parse_unroll.proofs.counting.+sizes.Goals as goal
use Rattle.occ_parse_unroll.proofs.counting.+sizes.Goals.{parts-in-Some, parts-in-None}

pub alternatives-alternative-requires : goal.alternatives-alternative-requires
alternatives-alternative-requires t c =
    let e = lines_at _ _ _ _ _ _ c.loop-node-test.true c.node-item.is c.seen.ensures in
    (omega (arith, lines-and _ _ _ _ _ e, c.decreases, c.loop-node.invariant.left), tt)

pub alternatives-loop-node-preserved : goal.alternatives-loop-node-preserved
alternatives-loop-node-preserved t c =
    let e = lines_at _ _ _ _ _ _ c.loop-node-test.true c.node-item.is c.seen.ensures in
    record {
      whole = branches_more _ _ _ _ _ e _ _ _ _ c.alternative.ensures c.min-count.ensures c.loop-node.invariant.whole;
      counted = omega (arith, c.min-count.ensures);
      left = omega (arith, lines-and _ _ _ _ _ e, c.loop-node.invariant.left);
    }

pub choices-choice-requires : goal.choices-choice-requires
choices-choice-requires t c =
    let e = lines_at _ _ _ _ _ _ c.loop-node-test.true c.node-item.is c.seen.ensures in
    (omega (arith, lines-and _ _ _ _ _ e, c.decreases, c.loop-node.invariant.left), tt)

pub choices-loop-node-preserved : goal.choices-loop-node-preserved
choices-loop-node-preserved t c =
    let e = lines_at _ _ _ _ _ _ c.loop-node-test.true c.node-item.is c.seen.ensures in
    record {
      whole = cases_more _ _ _ _ _ e _ _ _ _ c.choice.ensures c.min-count.ensures c.loop-node.invariant.whole;
      counted = omega (arith, c.min-count.ensures);
      left = omega (arith, lines-and _ _ _ _ _ e, c.loop-node.invariant.left);
    }

pub first-process-requires : goal.first-process-requires
first-process-requires t c =
    let e = lines_at _ _ _ _ _ _ c.loop-node-test.true c.node-item.is c.seen.ensures in
    (omega (arith, lines-and _ _ _ _ _ e, c.decreases, c.loop-node.invariant.left), tt)

pub first-loop-node-preserved : goal.first-loop-node-preserved
first-loop-node-preserved t c =
    let e = lines_at _ _ _ _ _ _ c.loop-node-test.true c.node-item.is c.seen.ensures in
    record {
      whole = first_declaration _ _ _ _ _ e _ _ _ _ _ _ c.in-Some.ensures (c.names_in.ensures ∙ ap (λ ds. min 4097 (names_in ds)) c.items.ensures) c.min-waiting.ensures c.loop-node.invariant.whole;
      few = omega (arith, c.min-waiting.ensures);
      left = omega (arith, lines-and _ _ _ _ _ e, c.loop-node.invariant.left);
    }

pub parts-process-requires : goal.parts-process-requires
parts-process-requires t c =
    let e = lines_at _ _ _ _ _ _ c.loop-node-test.true c.node-item.is c.seen.ensures in
    (omega (arith, lines-and _ _ _ _ _ e, c.decreases, c.loop-node.invariant.left), tt)

pub parts-loop-node-preserved : goal.parts-loop-node-preserved
parts-loop-node-preserved t c =
    let e = lines_at _ _ _ _ _ _ c.loop-node-test.true c.node-item.is c.seen.ensures in
    elim c.match-declaration.branch [
      | parts-in-Some w ↦ record {
        whole = rw (w.count-is, w.waiting-is) (parts_declaration _ _ _ _ _ e _ _ _ _ _ _ _ w.in-Some.ensures (w.names_in.ensures ∙ ap (λ ds. min 4097 (names_in ds)) w.items.ensures) w.min-waiting.ensures c.loop-node.invariant.whole);
        counted = omega (arith, w.count-is, c.loop-node.invariant.counted);
        few = omega (arith, w.waiting-is, w.min-waiting.ensures);
        left = omega (arith, lines-and _ _ _ _ _ e, c.loop-node.invariant.left);
      }
      | parts-in-None w ↦ record {
        whole = rw (w.count-is, w.waiting-is) (parts_process _ _ _ _ _ e _ _ _ _ _ w.in-None.ensures w.process.ensures w.min-count.ensures c.loop-node.invariant.whole);
        counted = omega (arith, w.count-is, w.min-count.ensures);
        few = omega (arith, w.waiting-is);
        left = omega (arith, lines-and _ _ _ _ _ e, c.loop-node.invariant.left);
      }
    ]
