use Rattle.std.proofs.Common.{◌≡◌, ◌↔◌, drop}
use Rattle.occ_law_shape.specs.occ_law.Lists.{names_without}
use Rattle.occ_syntax.specs.View.{numbers}
use Rattle.occ_law_scope.proofs.pairs.are_names_without.Given as goal

-- the names so far are the same
abbrev pub invariant-loop-var : goal.invariant-loop-var
invariant-loop-var l =
    (numbers l.rest ≡ names_without l.name.0 (numbers (drop l.var-index l.vars))) ↔ (numbers l.others ≡ names_without l.name.0 (numbers l.vars))
