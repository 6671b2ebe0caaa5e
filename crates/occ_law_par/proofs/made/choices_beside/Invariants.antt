use Rattle.std.proofs.Common.{◌≡◌, length}
use Rattle.occ_syntax.specs.View.{cases, in_choices, tree}
use Rattle.occ_law_shape.specs.occ_law.Lists.{all_cases}
use Rattle.occ_law_shape.specs.occ_law.Parallel.{each_case_beside}
use Rattle.occ_law_par.proofs.made.choices_beside.Given as goal

-- what is made so far and what is left are all of it
abbrev pub invariant-loop-rest : goal.invariant-loop-rest
invariant-loop-rest l = all_cases (cases (in_choices l.made)) (each_case_beside (cases l.rest) (tree l.second)) ≡ each_case_beside (cases l.choices) (tree l.second)

abbrev pub decreases-loop-rest : goal.decreases-loop-rest
decreases-loop-rest l = length l.rest
