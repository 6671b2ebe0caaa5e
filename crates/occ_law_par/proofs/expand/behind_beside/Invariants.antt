use Rattle.std.proofs.Common.{◌≡◌, ◌↔◌, length}
use Rattle.occ_syntax.specs.Tree.{Branches}
use Rattle.occ_syntax.specs.View.{branches}
use Rattle.occ_law_shape.specs.occ_law.Lists.{all_branches}
use Rattle.occ_law_par.specs.Expand.{each_beside}
use Rattle.occ_law_par.proofs.expand.behind_beside.Given as goal

-- what stands behind the branches that are left is what stands behind all of them
abbrev pub invariant-loop-front : goal.invariant-loop-front
invariant-loop-front l = (r : Branches)
    → (branches l.rest ≡ all_branches (each_beside l.beside (branches l.front)) r) ↔ (branches l.others ≡ all_branches (each_beside l.beside (branches l.alternatives)) r)

abbrev pub decreases-loop-front : goal.decreases-loop-front
decreases-loop-front l = length l.front
