use Rattle.std.proofs.Common.{◌≡◌, ◌≤◌, ◌%◌, ◌^◌, length}
use Rattle.occ_norm_assign.specs.Written.{onto}
use Rattle.occ_norm_assign.specs.Lists.{at}
use Rattle.occ_norm_assign.proofs.Listing.{Each}
use Rattle.occ_norm_assign.proofs.lists.put_on.Given as goal

abbrev pub invariant-loop-place : goal.invariant-loop-place
invariant-loop-place l = record {
  count : length l.after.items ≡ l.place;
  most : l.place ≤ length l.before;
  each : Each (λ i z. z ≡ onto l.world.store l.writes (at l.before i) (at l.before i) % 2 ^ l.bits) l.after.items;
}
