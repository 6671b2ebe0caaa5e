use Rattle.std.proofs.Common.{ap, ◌∙◌, rules}
use Rattle.std.proofs.lemmas.Fn.{filter_same}
use Rattle.std.specs.List.{filter}
use Rattle.occ_node.specs.occ_base.declared.event.Event.{Event}
use Rattle.occ_node.specs.declared.node.NodeId.{NodeId}
use Rattle.occ_scope.specs.Change.{stays}
use Rattle.occ_scope.proofs.change.open_offers.Goals as goal

pub returns : goal.returns
returns c = filter_same _ (λ (o : Event × NodeId). stays c.args.change o.0) _ (λ x b f' k. search rules) _ _ c.retain.ensures.filtered
    ∙ ap (filter (λ (o : Event × NodeId). stays c.args.change o.0)) (c.in_ok-offers.ensures.items ∙ c.items.ensures ∙ ap (λ r. r.offers) c.row.ensures.row)
