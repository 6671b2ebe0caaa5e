use Rattle.std.proofs.Common.{◌≡◌, ◌||◌, ◌&&◌, false, List, drop, sym, ap, ◌∙◌, subst}
use Rattle.occ_syntax.specs.occ_base.declared.event.Event.{Event}
use Rattle.occ_refine.specs.occ_accept.Accept.{in_set}
use Rattle.occ_refine.specs.occ_compare.Orders.{IsListOf}
use Rattle.occ_refine.specs.occ_node.Offers.{is_offered}
use Rattle.occ_refine.specs.occ_node.World.{row_of}
use Rattle.occ_refine.proofs.from_compare.Searching.{empty_list, front_list}
use Rattle.occ_refine.proofs.Least.{none_found, first_found}
use Rattle.occ_traces.specs.Choosers.{is_wanted}
use Rattle.occ_traces.proofs.choices.least_offer.Goals as goal

pub returns-in-empty : goal.returns-in-empty
returns-in-empty c =
    let offers = (row_of c.args.world.now c.args.node).offers in
    let test = λ (e : Event). is_wanted c.args.world.now c.args.node c.args.refused e in
    let members : (e : Event) → in_set c.add_wanted.new.events.items e ≡ (false || (is_offered offers e && test e)) = λ e.
    c.in_ok-add_wanted.ensures e ∙ ap (λ l. in_set l e || (is_offered offers e && test e)) c.new-events.ensures.items in
    none_found c.args.params.now offers test c.add_wanted.new.events.items c.in_order-events.result.items members c.in_order-events.ensures
    (sym c.as_slice.ensures.value ∙ empty_list c.as_slice.result.now c.in-empty.len_below)

pub returns : goal.returns
returns c =
    let offers = (row_of c.args.world.now c.args.node).offers in
    let test = λ (e : Event). is_wanted c.args.world.now c.args.node c.args.refused e in
    let members : (e : Event) → in_set c.add_wanted.new.events.items e ≡ (false || (is_offered offers e && test e)) = λ e.
    c.in_ok-add_wanted.ensures e ∙ ap (λ l. in_set l e || (is_offered offers e && test e)) c.new-events.ensures.items in
    let listed : IsListOf c.args.params.now c.add_wanted.new.events.items c.as_slice.result.now = subst (λ (l : List Event). IsListOf c.args.params.now c.add_wanted.new.events.items l) (sym c.as_slice.ensures.value) c.in_order-events.ensures in
    first_found c.args.params.now offers test c.add_wanted.new.events.items c.as_slice.result.now members listed _ (drop 1 c.as_slice.result.now) (front_list c.as_slice.result.now _ c.in-len1-up.len_at_least)
