use Rattle.std.proofs.Common.{◌≡◌, length}
use Rattle.occ_syntax.specs.View.{branches, in_alternatives}
use Rattle.occ_law_shape.specs.occ_law.Lists.{all_branches}
use Rattle.occ_law_shape.specs.occ_law.Parallel.{meetings}
use Rattle.occ_law_par.proofs.right_expand.add_meetings.Given as goal

-- what is put there so far and what is left are all of it
abbrev pub invariant-loop-rest : goal.invariant-loop-rest
invariant-loop-rest l = all_branches (branches (in_alternatives l.made)) (meetings (branches l.rest) (branches l.seconds))
    ≡ all_branches (branches (in_alternatives l.initial.made)) (meetings (branches l.firsts) (branches l.seconds))

abbrev pub decreases-loop-rest : goal.decreases-loop-rest
decreases-loop-rest l = length l.rest
