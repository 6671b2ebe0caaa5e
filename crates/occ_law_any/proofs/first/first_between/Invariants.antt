use Rattle.std.proofs.Common.{ℕ, ◌<◌, ◌≤◌, [], ◌∷◌}
use Rattle.occ_syntax.specs.View.{tree}
use Rattle.occ_law_any.specs.Changes.{IsUnchanged}
use Rattle.occ_law_any.proofs.first.first_between.Given as goal

-- no change so far
abbrev pub invariant-loop-front : goal.invariant-loop-front
invariant-loop-front l = (h j : ℕ) → h < l.front → j ≤ l.breadth → IsUnchanged l.asked.law.0 l.asked.scope.now (tree l.asked.left.now) (h ∷ j ∷ [])
