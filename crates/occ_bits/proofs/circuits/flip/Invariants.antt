use Rattle.std.proofs.Common.{not, get_or}
use Rattle.occ_dd.specs.Store.{has, Keeps}
use Rattle.occ_bits.specs.Circuits.{HasBits, no_set}
use Rattle.occ_bits.proofs.circuits.flip.Given as goal

abbrev pub invariant-loop-digit : goal.invariant-loop-digit
invariant-loop-digit l = record {
  keeps : Keeps l.fn.store l.store;
  bits : HasBits l.store l.digit-index l.word (λ i x. not (has l.fn.store (get_or l.digits i no_set) x));
}
