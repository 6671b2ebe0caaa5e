use Rattle.occ_dd.specs.Store.{Keeps}
use Rattle.occ_bits.specs.Circuits.{HasBits, row_at}
use Rattle.occ_bits.proofs.circuits.gates.Given as goal

abbrev pub invariant-loop-k : goal.invariant-loop-k
invariant-loop-k l = record {
  keeps : Keeps l.fn.store l.store;
  bits : HasBits l.store l.k l.word (row_at l.fn.store l.rows l.left l.right);
}
