use Rattle.std.proofs.Common.{◌≡◌, length}
use Rattle.occ_syntax.specs.Tree.{Branches}
use Rattle.occ_syntax.specs.View.{branches, in_alternatives, tree}
use Rattle.occ_law_shape.specs.occ_law.Lists.{all_branches}
use Rattle.occ_law_shape.specs.occ_law.Parallel.{first_goes}
use Rattle.occ_law_par.proofs.right_expand.add_first.Given as goal

-- what is put there so far and what is left are all of it
abbrev pub invariant-loop-rest : goal.invariant-loop-rest
invariant-loop-rest l = (r : Branches) → all_branches (branches (in_alternatives l.made)) (all_branches (first_goes (branches l.rest) (tree l.second)) r)
    ≡ all_branches (branches (in_alternatives l.initial.made)) (all_branches (first_goes (branches l.firsts) (tree l.second)) r)

abbrev pub decreases-loop-rest : goal.decreases-loop-rest
decreases-loop-rest l = length l.rest
