use Rattle.std.proofs.Common.{◌≡◌, ◌↔◌, length}
use Rattle.occ_syntax.specs.Tree.{Cases}
use Rattle.occ_syntax.specs.View.{cases}
use Rattle.occ_law_shape.specs.occ_law.Lists.{all_cases}
use Rattle.occ_law_if.proofs.choices.behind.Given as goal

-- what stands behind the rest of the front
abbrev pub invariant-loop-front : goal.invariant-loop-front
invariant-loop-front l = (r : Cases) → (cases l.rest ≡ all_cases (cases l.front) r) ↔ (cases l.all ≡ all_cases (cases l.first) r)

abbrev pub decreases-loop-front : goal.decreases-loop-front
decreases-loop-front l = length l.front
