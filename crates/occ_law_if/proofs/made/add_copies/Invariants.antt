use Rattle.std.proofs.Common.{◌≡◌, length}
use Rattle.occ_syntax.specs.Tree.{Cases}
use Rattle.occ_syntax.specs.View.{cases, in_choices}
use Rattle.occ_law_shape.specs.occ_law.Lists.{all_cases}
use Rattle.occ_law_if.proofs.made.add_copies.Given as goal

-- what is put there so far and what is left are all of it
abbrev pub invariant-loop-rest : goal.invariant-loop-rest
invariant-loop-rest l = (r : Cases) → all_cases (cases (in_choices l.made)) (all_cases (cases l.rest) r)
    ≡ all_cases (cases (in_choices l.initial.made)) (all_cases (cases l.choices) r)

abbrev pub decreases-loop-rest : goal.decreases-loop-rest
decreases-loop-rest l = length l.rest
