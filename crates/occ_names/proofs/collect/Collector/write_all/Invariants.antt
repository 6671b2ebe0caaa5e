use Rattle.std.proofs.Common.{◌≡◌, ◌++◌, drop}
use Rattle.occ_syntax.specs.View.{numbers}
use Rattle.occ_names.specs.Mentions.{outside, writes}
use Rattle.occ_names.proofs.collect.Collector.write_all.Given as goal

abbrev pub invariant-loop-var : goal.invariant-loop-var
invariant-loop-var l = record {
  found : l.self.found ++ outside l.fn.self.bound (writes (numbers (drop l.var-index l.vars))) ≡ l.fn.self.found ++ outside l.fn.self.bound (writes (numbers l.vars));
  bound : l.self.bound ≡ l.fn.self.bound;
}
