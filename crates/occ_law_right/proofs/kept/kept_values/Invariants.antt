use Rattle.std.proofs.Common.{◌≡◌, ◌++◌, length}
use Rattle.occ_law_seq.specs.occ_law.Lists.{values_without}
use Rattle.occ_syntax.specs.View.{exps, numbers}
use Rattle.occ_law_right.proofs.kept.kept_values.Given as goal

-- what is kept so far and what is kept of the rest are all that is kept
abbrev pub invariant-loop-vars : goal.invariant-loop-vars
invariant-loop-vars l = exps l.kept ++ values_without l.var.0 (numbers l.vars) (exps l.values) ≡ values_without l.var.0 (numbers l.pairs.vars.now) (exps l.pairs.values.now)

abbrev pub decreases-loop-vars : goal.decreases-loop-vars
decreases-loop-vars l = length l.vars
