use Rattle.std.proofs.Common.{ℕ, ◌<◌, [], ◌∷◌}
use Rattle.occ_syntax.specs.View.{tree}
use Rattle.occ_law_any.specs.Changes.{IsUnchanged}
use Rattle.occ_law_any.proofs.first.first_behind.Given as goal

-- no change so far
abbrev pub invariant-loop-k : goal.invariant-loop-k
invariant-loop-k l = (j : ℕ) → j < l.k → IsUnchanged l.asked.law.0 l.asked.scope.now (tree l.asked.left.now) (j ∷ [])
