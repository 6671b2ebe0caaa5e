use Rattle.std.proofs.Common.{◌≡◌, length}
use Rattle.occ_dd.specs.Store.{Keeps}
use Rattle.occ_bits.proofs.Reaching.{AreEither}
use Rattle.occ_bits.proofs.compose.either.Given as goal

abbrev pub invariant-loop-place : goal.invariant-loop-place
invariant-loop-place l = record {
  keeps : Keeps l.fn.store l.store;
  size : length l.digits.items ≡ l.place;
  each : AreEither l.store l.set l.yes l.no l.digits.items;
}
