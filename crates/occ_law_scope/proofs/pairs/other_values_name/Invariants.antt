use Rattle.std.proofs.Common.{◌≡◌, drop, length}
use Rattle.occ_law_shape.specs.occ_law.Lists.{values_without}
use Rattle.occ_syntax.specs.Names.{some_names}
use Rattle.occ_syntax.specs.View.{exps, numbers}
use Rattle.occ_law_scope.proofs.pairs.other_values_name.Given as goal

-- the right sides so far don't name it
abbrev pub invariant-loop-var : goal.invariant-loop-var
invariant-loop-var l =
    some_names (values_without l.name.0 (numbers l.vars) (exps l.values)) l.name.0
    ≡ some_names (values_without l.name.0 (numbers (drop (length l.yielded) l.vars)) (exps (drop (length l.yielded) l.values))) l.name.0
