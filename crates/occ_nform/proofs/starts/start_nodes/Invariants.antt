use Rattle.std.proofs.Common.{◌≡◌, ◌<◌, ℕ, Some, length}
use Rattle.occ_nform_rows.specs.occ_mdd.Maps.{value}
use Rattle.occ_nform_rows.specs.occ_compare.Places.{assignment_at}
use Rattle.occ_nform.specs.Numbering.{node_at}
use Rattle.occ_nform.proofs.starts.start_nodes.Given as goal

abbrev pub invariant-loop-place : goal.invariant-loop-place
invariant-loop-place l = record {
  count : length l.starts.items ≡ l.place;
  each : (k : ℕ) → k < l.place → value l.world.maps l.root.states (assignment_at l.root.params k) ≡ Some (node_at l.starts.items k);
}
