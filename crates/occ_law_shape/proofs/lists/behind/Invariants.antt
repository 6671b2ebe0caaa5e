use Rattle.std.proofs.Common.{◌≡◌, ◌↔◌, length}
use Rattle.occ_syntax.specs.Tree.{Trees}
use Rattle.occ_syntax.specs.View.{trees}
use Rattle.occ_law.specs.occ_meaning.Parallel.{all_of}
use Rattle.occ_law_shape.proofs.lists.behind.Given as goal

-- what stands behind the fronts that are left is what stands behind the first list
abbrev pub invariant-loop-front : goal.invariant-loop-front
invariant-loop-front l = (r : Trees) → (trees l.rest ≡ all_of (trees l.front) r) ↔ (trees l.all ≡ all_of (trees l.first) r)

abbrev pub decreases-loop-front : goal.decreases-loop-front
decreases-loop-front l = length l.front
