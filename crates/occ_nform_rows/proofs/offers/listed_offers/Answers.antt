use Rattle.std.proofs.Common.{List, ap, ◌∙◌, subst}
use Rattle.std.proofs.lemmas.List.{take_all, get_or_default}
use Rattle.occ_syntax.specs.occ_base.declared.event.Event.{Event}
use Rattle.occ_compare.specs.Orders.{IsListOf}
use Rattle.occ_nform_rows.specs.Lists.{with_numbers}
use Rattle.occ_nform_rows.proofs.Listing.{next_small, with_step, offers_listed}
use Rattle.occ_nform_rows.proofs.offers.listed_offers.Goals as goal

pub add_offer-requires : goal.add_offer-requires
add_offer-requires c = next_small _ c.args.offers.now _ c.find-next.result c.requires.numbered c.find-next.ensures

pub loop-event-preserved : goal.loop-event-preserved
loop-event-preserved c = with_step c.args.numbers.now c.args.offers.now c.as_slice-event-items.result.now c.loop-event.event-index _ c.find-next.result c.loop-event.list c.add_offer.new.list c.loop-event-test.true
    (get_or_default c.as_slice-event-items.result.now c.loop-event.event-index _ _ c.loop-event-test.true) c.find-next.ensures c.loop-event.invariant c.in_ok-add_offer.ensures

pub returns : goal.returns
returns c =
    let listed = subst (λ (set : List Event). IsListOf c.args.params.now set c.in_order-events.result.items) (c.in_ok-events.ensures.items ∙ c.items.ensures.items) c.in_order-events.ensures in
    offers_listed c.args.numbers.now c.args.offers.now c.args.params.now c.in_ok-set.set c.in_order-events.result.items c.loop-event.list c.in_ok-set.ensures listed
    (c.loop-event.invariant ∙ ap (with_numbers c.args.numbers.now c.args.offers.now) (take_all c.loop-event.event-index c.as_slice-event-items.result.now c.loop-event-test.false ∙ c.as_slice-event-items.ensures.value))
