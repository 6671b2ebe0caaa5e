use Rattle.std.proofs.Common.{◌≡◌, ◌≤◌, ◌<◌, ℕ, length, get_or}
use Rattle.occ_nform_rows.specs.occ_node.World.{row_of}
use Rattle.occ_nform_rows.specs.occ_node.declared.node.NodeId.{NodeId}
use Rattle.occ_nform.specs.Numbering.{nodes_over}
use Rattle.occ_nform.proofs.heights.all_heights.Given as goal

abbrev pub invariant-loop-place : goal.invariant-loop-place
invariant-loop-place l = record {
  count : length l.heights.items ≡ l.place;
  low : (i : ℕ) → i < length l.heights.items → get_or l.heights.items i 0 ≤ i;
  over : (a : NodeId) → a.0 < l.place → get_or l.heights.items a.0 0 ≡ nodes_over l.heights.items (row_of l.world a).offers;
}
