use Rattle.std.proofs.Common.{◌≡◌, ◌↔◌, length}
use Rattle.occ_syntax.specs.Tree.{Branches}
use Rattle.occ_syntax.specs.View.{exp, waiting, tree, branches}
use Rattle.occ_law_shape.specs.occ_law.Parallel.{meetings_of}
use Rattle.occ_law_par.proofs.meet.behind_meetings.Given as goal

-- what stands behind the meetings that are left is what stands behind all of them
abbrev pub invariant-loop-front : goal.invariant-loop-front
invariant-loop-front l = (r : Branches)
    → (branches l.rest ≡ meetings_of (exp l.first.0.condition) (waiting l.first.0.wait) (tree l.first.1) (branches l.front) r)
    ↔ (branches l.others ≡ meetings_of (exp l.first.0.condition) (waiting l.first.0.wait) (tree l.first.1) (branches l.seconds) r)

abbrev pub decreases-loop-front : goal.decreases-loop-front
decreases-loop-front l = length l.front
