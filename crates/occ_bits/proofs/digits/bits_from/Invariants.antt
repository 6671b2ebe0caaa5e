use Rattle.std.proofs.Common.{◌==◌, ◌+◌}
use Rattle.std.specs.Int.{bit_at}
use Rattle.occ_dd.specs.Store.{Keeps}
use Rattle.occ_bits.specs.Circuits.{HasBits}
use Rattle.occ_bits.proofs.digits.bits_from.Given as goal

abbrev pub invariant-loop-k : goal.invariant-loop-k
invariant-loop-k l = record {
  keeps : Keeps l.fn.store l.store;
  bits : HasBits l.store l.k l.word (λ i x. bit_at x (l.first + i) == 1);
}
