use Rattle.std.proofs.Common.{◌≡◌, ◌↔◌, length}
use Rattle.occ_law_shape.specs.occ_law.Lists.{values_without}
use Rattle.occ_syntax.specs.View.{exps, numbers}
use Rattle.occ_law_seq.proofs.kept.are_values_without.Given as goal

-- the expressions so far are the right sides so far, but for those of one variable
abbrev pub invariant-loop-vars : goal.invariant-loop-vars
invariant-loop-vars l = (exps l.rest ≡ values_without l.var.0 (numbers l.vars) (exps l.values))
    ↔ (exps l.exprs ≡ values_without l.var.0 (numbers l.pairs.vars.now) (exps l.pairs.values.now))

abbrev pub decreases-loop-vars : goal.decreases-loop-vars
decreases-loop-vars l = length l.vars
