use Rattle.std.proofs.Common.{arith, sym, ◌∙◌}
use Rattle.occ_parse_unroll.proofs.Lines.{lines_at, lines-and}
use Rattle.occ_parse_unroll.proofs.Faults.{count_here, count_below, count_behind}
use Rattle.occ_parse_unroll.proofs.limits.+count_fault.Goals as goal

pub count_fault-requires : goal.count_fault-requires
count_fault-requires t c =
    let e = lines_at _ _ _ _ _ _ c.loop-node-test.true c.node-item.is c.seen-line.ensures in
    (omega (arith, lines-and _ _ _ _ _ e, c.decreases, c.loop-node.invariant.left), tt)

pub returns-then-passes : goal.returns-then-passes
returns-then-passes t c =
    let e = lines_at _ _ _ _ _ _ c.loop-node-test.true c.node-item.is c.seen-line.ensures in
    count_here _ _ _ _ _ e (sym c.passes.ensures ∙ c.if-passes.true) ∙ c.loop-node.invariant.same

pub returns-in-Some : goal.returns-in-Some
returns-in-Some t c =
    let e = lines_at _ _ _ _ _ _ c.loop-node-test.true c.node-item.is c.seen-line.ensures in
    count_below _ _ _ _ _ _ e (sym c.passes.ensures ∙ c.if-passes.false) c.in-Some.ensures ∙ c.loop-node.invariant.same

pub loop-node-preserved : goal.loop-node-preserved
loop-node-preserved t c =
    let e = lines_at _ _ _ _ _ _ c.loop-node-test.true c.node-item.is c.seen-line.ensures in
    record {
      same = count_behind _ _ _ _ _ e (sym c.passes.ensures ∙ c.if-passes.false) c.in_default.ensures ∙ c.loop-node.invariant.same;
      left = omega (arith, lines-and _ _ _ _ _ e, c.loop-node.invariant.left);
    }
