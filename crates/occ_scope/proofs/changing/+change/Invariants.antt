use Rattle.std.proofs.Common.{◌+◌, ◌*◌, take}
use Rattle.occ_node.specs.World.{Leads}
use Rattle.occ_scope.specs.Change.{AreChanged, IsChanged}
use Rattle.occ_scope.specs.Paired.{Paired}
use Rattle.occ_scope.proofs.changing.+change.Given as goal

abbrev pub decreases-node_after : goal.decreases-node_after
decreases-node_after l = 2 * l.node.0 + 1

abbrev pub decreases-offers_after : goal.decreases-offers_after
decreases-offers_after l = 2 * l.node.0

-- the offers so far are made
abbrev pub invariant-offers_after-loop-offer : goal.invariant-offers_after-loop-offer
invariant-offers_after-loop-offer l = record {
  leads : Leads l.fn.world l.world;
  memo : AreChanged l.world l.change l.memo;
  paired : Paired (IsChanged l.world l.change) (take l.offer-index l.offer-items) l.offers;
}
