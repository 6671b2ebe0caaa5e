use Rattle.occ_bits.specs.Circuits.{IsDifferenceSoFar}
use Rattle.occ_bits.proofs.circuits.subtract.Given as goal

abbrev pub invariant-loop-k : goal.invariant-loop-k
invariant-loop-k l = IsDifferenceSoFar l.fn.store l.store l.left l.right l.k l.difference l.borrow
