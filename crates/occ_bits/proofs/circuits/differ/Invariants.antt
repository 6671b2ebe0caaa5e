use Rattle.occ_bits.specs.Circuits.{DifferSoFar}
use Rattle.occ_bits.proofs.circuits.differ.Given as goal

abbrev pub invariant-loop-k : goal.invariant-loop-k
invariant-loop-k l = DifferSoFar l.fn.store l.store l.left l.right l.k l.apart
