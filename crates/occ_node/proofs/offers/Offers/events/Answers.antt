use Rattle.std.proofs.Common.{◌≡◌, map, ap, ◌∙◌, arith}
use Rattle.std.proofs.lemmas.Grind.{common_steps}
use Rattle.occ_accept.specs.occ_base.declared.event.Event.{Event}
use Rattle.occ_accept.specs.Accept.{in_set}
use Rattle.occ_node.specs.declared.node.NodeId.{NodeId}
use Rattle.occ_node.proofs.Places.{events_offered}
use Rattle.occ_node.proofs.offers.Offers.events.Goals as goal

pub returns : goal.returns
returns c e =
    let all : c.loop-offer.events.items ≡ map (λ (o : Event × NodeId). o.0) c.args.self.now = grind (arith, common_steps) in
    c.gather.ensures e ∙ ap (λ set. in_set set e) all ∙ events_offered c.args.self.now e
