use Rattle.std.proofs.Common.{◌≡◌, length}
use Rattle.occ_law_shape.specs.occ_meaning.Substitution.{value_for}
use Rattle.occ_syntax.specs.View.{exps, numbers}
use Rattle.occ_law_seq.proofs.pairs.Pairs.value.Given as goal

-- no variable so far is it
abbrev pub invariant-loop-vars : goal.invariant-loop-vars
invariant-loop-vars l = value_for (numbers l.vars) (exps l.values) l.var.0 ≡ value_for (numbers l.self.vars.now) (exps l.self.values.now) l.var.0

abbrev pub decreases-loop-vars : goal.decreases-loop-vars
decreases-loop-vars l = length l.vars
