use Rattle.std.proofs.Common.{◌≡◌, ◌∷◌, ◌++◌, drop}
use Rattle.occ_syntax.specs.View.{exp, exps}
use Rattle.occ_law_shape.proofs.comparison.Comparison.exprs.Given as goal

-- what is there, and what is left of the conditions
abbrev pub invariant-loop-condition : goal.invariant-loop-condition
invariant-loop-condition l = exp l.self.left.now ∷ exp l.self.right.now ∷ exps l.self.under.now ≡ exps l.all ++ exps (drop l.condition-index l.self.under.now)
