use Rattle.std.proofs.Common.{◌≡◌, ◌↔◌, length}
use Rattle.occ_syntax.specs.Tree.{Cases}
use Rattle.occ_syntax.specs.View.{cases, exp}
use Rattle.occ_law_shape.specs.occ_law.Choice.{each_case_under}
use Rattle.occ_law_shape.specs.occ_law.Lists.{all_cases}
use Rattle.occ_law_if.proofs.placed.behind_under.Given as goal

-- what stands behind the rest of the front
abbrev pub invariant-loop-front : goal.invariant-loop-front
invariant-loop-front l =
    (r : Cases) → (cases l.rest ≡ all_cases (each_case_under (exp l.condition) (cases l.front)) r) ↔ (cases l.others ≡ all_cases (each_case_under (exp l.condition) (cases l.inner)) r)

abbrev pub decreases-loop-front : goal.decreases-loop-front
decreases-loop-front l = length l.front
