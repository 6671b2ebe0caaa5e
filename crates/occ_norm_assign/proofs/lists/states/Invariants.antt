use Rattle.std.proofs.Common.{◌≡◌, ◌≤◌, ◌^◌, length}
use Rattle.occ_norm_assign.proofs.Listing.{Each}
use Rattle.occ_norm_assign.proofs.lists.states.Given as goal

abbrev pub invariant-loop-state : goal.invariant-loop-state
invariant-loop-state l = record {
  count : length l.list.items ≡ l.state;
  most : l.state ≤ 2 ^ l.bits;
  each : Each (λ i x. x ≡ i) l.list.items;
}
