use Rattle.std.proofs.Common.{◌∙◌}
use Rattle.occ_names.proofs.Collected.{further, all_found, next_expr, no_expr}
use Rattle.occ_names.proofs.collect.Collector.read_all.Goals as goal

pub loop-expr-preserved : goal.loop-expr-preserved
loop-expr-preserved c = record {
  found = further _ _ _ _ _ _ _ _ c.loop-expr.invariant.bound c.in_ok-read.ensures.found (next_expr _ _ _ c.loop-expr-test.true c.expr-item.is) c.loop-expr.invariant.found;
  bound = c.in_ok-read.ensures.bound ∙ c.loop-expr.invariant.bound;
}

pub returns : goal.returns
returns c = record {
  found = all_found _ _ _ _ (no_expr _ _ c.loop-expr-test.false) c.loop-expr.invariant.found;
  bound = c.loop-expr.invariant.bound;
}
