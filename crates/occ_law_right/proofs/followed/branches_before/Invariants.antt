use Rattle.std.proofs.Common.{◌≡◌, length}
use Rattle.occ_law_seq.specs.occ_law.Lists.{all_branches}
use Rattle.occ_law_seq.specs.occ_law.Sequence.{each_branch_before}
use Rattle.occ_syntax.specs.View.{branches, in_alternatives, trees}
use Rattle.occ_law_right.proofs.followed.branches_before.Given as goal

-- what is made so far and what is made of the rest are all that is made
abbrev pub invariant-loop-rest : goal.invariant-loop-rest
invariant-loop-rest l = all_branches (branches (in_alternatives l.made)) (each_branch_before (branches l.rest) (trees l.behind)) ≡ each_branch_before (branches l.alternatives) (trees l.behind)

abbrev pub decreases-loop-rest : goal.decreases-loop-rest
decreases-loop-rest l = length l.rest
