use Rattle.std.proofs.Common.{◌≡◌, length}
use Rattle.occ_law_seq.specs.occ_law.Lists.{all_cases}
use Rattle.occ_law_seq.specs.occ_law.Sequence.{each_case_before}
use Rattle.occ_syntax.specs.View.{cases, in_choices, trees}
use Rattle.occ_law_right.proofs.followed.choices_before.Given as goal

-- what is made so far and what is made of the rest are all that is made
abbrev pub invariant-loop-rest : goal.invariant-loop-rest
invariant-loop-rest l = all_cases (cases (in_choices l.made)) (each_case_before (cases l.rest) (trees l.behind)) ≡ each_case_before (cases l.choices) (trees l.behind)

abbrev pub decreases-loop-rest : goal.decreases-loop-rest
decreases-loop-rest l = length l.rest
