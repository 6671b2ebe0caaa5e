use Rattle.std.proofs.Common.{◌≤◌}
use Rattle.occ_norm_alt.proofs.choice.bits_shown.Given as goal

abbrev pub invariant-loop-bit : goal.invariant-loop-bit
invariant-loop-bit l = l.count ≤ l.bit
