use Rattle.std.proofs.Common.{◌≡◌, ◌↔◌, drop, length}
use Rattle.occ_law_shape.specs.occ_law.Lists.{values_without}
use Rattle.occ_syntax.specs.View.{exps, numbers}
use Rattle.occ_law_scope.proofs.pairs.are_values_without.Given as goal

-- the right sides so far are the same
abbrev pub invariant-loop-var : goal.invariant-loop-var
invariant-loop-var l =
    (exps l.rest ≡ values_without l.name.0 (numbers (drop (length l.yielded) l.vars)) (exps (drop (length l.yielded) l.values)))
    ↔ (exps l.others ≡ values_without l.name.0 (numbers l.vars) (exps l.values))
