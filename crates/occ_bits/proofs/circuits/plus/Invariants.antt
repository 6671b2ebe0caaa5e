use Rattle.occ_bits.specs.Circuits.{IsSumSoFar}
use Rattle.occ_bits.proofs.circuits.plus.Given as goal

abbrev pub invariant-loop-k : goal.invariant-loop-k
invariant-loop-k l = IsSumSoFar l.fn.store l.store l.left l.right l.k l.sum l.carry
