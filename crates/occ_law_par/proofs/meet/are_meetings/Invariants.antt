use Rattle.std.proofs.Common.{◌≡◌, ◌↔◌, length}
use Rattle.occ_syntax.specs.View.{branches}
use Rattle.occ_law_shape.specs.occ_law.Parallel.{meetings}
use Rattle.occ_law_par.proofs.meet.are_meetings.Given as goal

-- the meetings so far stand there
abbrev pub invariant-loop-front : goal.invariant-loop-front
invariant-loop-front l = (branches l.rest ≡ meetings (branches l.front) (branches l.seconds)) ↔ (branches l.others ≡ meetings (branches l.firsts) (branches l.seconds))

abbrev pub decreases-loop-front : goal.decreases-loop-front
decreases-loop-front l = length l.front
