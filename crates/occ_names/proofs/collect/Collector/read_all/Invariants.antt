use Rattle.std.proofs.Common.{◌≡◌, ◌++◌, drop}
use Rattle.occ_syntax.specs.View.{exps}
use Rattle.occ_names.specs.Mentions.{outside, reads_of_all}
use Rattle.occ_names.proofs.collect.Collector.read_all.Given as goal

abbrev pub invariant-loop-expr : goal.invariant-loop-expr
invariant-loop-expr l = record {
  found : l.self.found ++ outside l.fn.self.bound (reads_of_all (exps (drop l.expr-index l.exprs))) ≡ l.fn.self.found ++ outside l.fn.self.bound (reads_of_all (exps l.exprs));
  bound : l.self.bound ≡ l.fn.self.bound;
}
