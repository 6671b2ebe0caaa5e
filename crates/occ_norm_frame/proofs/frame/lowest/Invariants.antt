use Rattle.std.proofs.Common.{◌≡◌, ◌<◌, ◌^◌, ℕ}
use Rattle.std.specs.Int.{bit_at}
use Rattle.occ_norm_frame.proofs.frame.lowest.Given as goal

abbrev pub invariant-loop-bit : goal.invariant-loop-bit
invariant-loop-bit l = record {
  within : l.bits < 2 ^ l.bit;
  all : (k : ℕ) → k < l.bit → bit_at l.bits k ≡ 1;
}
