use Rattle.std.proofs.Common.{◌≡◌, ◌<◌, ◌+◌, ℕ}
use Rattle.std.specs.Int.{bit_at}
use Rattle.occ_norm_frame.proofs.FrameBits.{in_row}
use Rattle.occ_norm_frame.proofs.frame.bits_from.Given as goal

abbrev pub invariant-loop-digit : goal.invariant-loop-digit
invariant-loop-digit l = (k : ℕ) → k < 64 → bit_at l.bits k ≡ in_row l.first (l.first + l.digit) k
