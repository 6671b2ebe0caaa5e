use Rattle.std.proofs.Common.{◌≡◌, length}
use Rattle.occ_dd.specs.Store.{Keeps}
use Rattle.occ_bits.proofs.Reaching.{AreBits}
use Rattle.occ_bits.proofs.compose.identity.Given as goal

abbrev pub invariant-loop-bit : goal.invariant-loop-bit
invariant-loop-bit l = record {
  keeps : Keeps l.fn.store l.store;
  size : length l.digits.items ≡ l.bit;
  each : AreBits l.store l.digits.items;
}
