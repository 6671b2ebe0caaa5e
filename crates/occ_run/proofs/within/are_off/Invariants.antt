use Rattle.std.proofs.Common.{◌≡◌, length}
use Rattle.occ_run.specs.Effects.{off_all}
use Rattle.occ_run.proofs.within.are_off.Given as goal

abbrev pub invariant-loop-rest : goal.invariant-loop-rest
invariant-loop-rest l = off_all l.rest l.event ≡ off_all l.channels l.event

abbrev pub decreases-loop-rest : goal.decreases-loop-rest
decreases-loop-rest l = length l.rest
