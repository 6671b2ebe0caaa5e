use Rattle.std.proofs.Common.{◌≡◌, map, take}
use Rattle.occ_accept.specs.occ_base.declared.event.Event.{Event}
use Rattle.occ_node.specs.declared.node.NodeId.{NodeId}
use Rattle.occ_node.proofs.offers.Offers.events.Given as goal

abbrev pub invariant-loop-offer : goal.invariant-loop-offer
invariant-loop-offer l = (l.offer-items ≡ l.self) × (l.events.items ≡ map (λ (o : Event × NodeId). o.0) (take l.offer-index l.offer-items))
