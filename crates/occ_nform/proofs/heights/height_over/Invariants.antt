use Rattle.std.proofs.Common.{◌≡◌, ◌≤◌, max, length, drop}
use Rattle.occ_nform.specs.Numbering.{nodes_over}
use Rattle.occ_nform.proofs.heights.height_over.Given as goal

abbrev pub invariant-loop-node : goal.invariant-loop-node
invariant-loop-node l = record {
  height : max l.height (nodes_over l.heights (drop l.node-index l.offers)) ≡ nodes_over l.heights l.offers;
  most : l.height ≤ length l.heights;
}
