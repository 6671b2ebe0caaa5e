use Rattle.std.proofs.Common.{◌≡◌, ◌++◌, length}
use Rattle.occ_stepped.proofs.Zeros.{zeros}
use Rattle.occ_stepped.proofs.leading.beginning.Given as goal

abbrev pub invariant-loop-rest : goal.invariant-loop-rest
invariant-loop-rest l = l.state ++ zeros l.rest ≡ zeros l.params

abbrev pub decreases-loop-rest : goal.decreases-loop-rest
decreases-loop-rest l = length l.rest
