use Rattle.std.proofs.Common.{◌≤◌, length}
use Rattle.occ_place.proofs.telling.alike.Given as goal

abbrev pub invariant-loop-rest : goal.invariant-loop-rest
invariant-loop-rest l = length l.rest ≤ length l.later

abbrev pub decreases-loop-rest : goal.decreases-loop-rest
decreases-loop-rest l = length l.rest
