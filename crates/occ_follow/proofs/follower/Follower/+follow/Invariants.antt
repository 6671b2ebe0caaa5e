use Rattle.std.proofs.Common.{◌+◌, ◌*◌, take}
use Rattle.occ_choice.specs.occ_node.World.{Leads}
use Rattle.occ_scope.specs.Paired.{Paired}
use Rattle.occ_follow.specs.Sequences.{IsRight, IsSequence}
use Rattle.occ_follow.proofs.follower.Follower.+follow.Given as goal

abbrev pub decreases-node_after : goal.decreases-node_after
decreases-node_after l = 2 * l.node.0 + 1

abbrev pub decreases-offers_after : goal.decreases-offers_after
decreases-offers_after l = 2 * l.node.0

-- the offers so far are made
abbrev pub invariant-offers_after-loop-offer : goal.invariant-offers_after-loop-offer
invariant-offers_after-loop-offer l = record {
  leads : Leads l.fn.world l.world;
  right : IsRight l.world l.self;
  paired : Paired (IsSequence l.world l.map) (take l.offer-index l.offer-items) l.offers;
}
