use Rattle.std.proofs.Common.{◌≤◌, length}
use Rattle.occ_norm_frame.specs.occ_node.World.{Leads}
use Rattle.occ_norm_assign.specs.Lists.{AreLed}
use Rattle.occ_norm_assign.proofs.laid.led.Given as goal

abbrev pub invariant-loop-place : goal.invariant-loop-place
invariant-loop-place l = record {
  goes : Leads l.fn.world l.world;
  most : l.place ≤ length l.to;
  led : AreLed l.world l.keep l.to l.rest l.place l.nodes.items;
}
