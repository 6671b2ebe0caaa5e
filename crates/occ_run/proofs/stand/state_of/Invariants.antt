use Rattle.std.proofs.Common.{◌≡◌, ◌++◌, length}
use Rattle.occ_run.specs.Places.{values_at}
use Rattle.occ_run.specs.Stands.{state_of}
use Rattle.occ_run.proofs.stand.state_of.Given as goal

abbrev pub invariant-loop-rest : goal.invariant-loop-rest
invariant-loop-rest l = l.state ++ state_of l.rest (values_at l.place) ≡ state_of l.place.scope.items (values_at l.place)

abbrev pub decreases-loop-rest : goal.decreases-loop-rest
decreases-loop-rest l = length l.rest
