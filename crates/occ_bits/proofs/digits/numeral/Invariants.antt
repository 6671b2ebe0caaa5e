use Rattle.std.proofs.Common.{◌==◌}
use Rattle.std.specs.Int.{bit_at}
use Rattle.occ_bits.specs.Circuits.{HasBits}
use Rattle.occ_bits.proofs.digits.numeral.Given as goal

abbrev pub invariant-loop-k : goal.invariant-loop-k
invariant-loop-k l = HasBits l.store l.k l.word (λ i x. bit_at l.value i == 1)
