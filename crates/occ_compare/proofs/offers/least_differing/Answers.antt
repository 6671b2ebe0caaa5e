use Rattle.std.proofs.Common.{◌≡◌, ◌||◌, ◌&&◌, false, [], ◌∷◌, List, drop, get_or, sym, ap, ◌∙◌, subst}
use Rattle.occ_syntax.specs.occ_base.declared.event.Event.{Event}
use Rattle.occ_node.specs.occ_accept.Accept.{in_set}
use Rattle.occ_node.specs.Offers.{is_offered}
use Rattle.occ_compare.specs.Orders.{IsListOf}
use Rattle.occ_compare.specs.Steps.{differ}
use Rattle.occ_compare.proofs.Searching.{none_differing, first_differing, empty_list, front_list}
use Rattle.occ_compare.proofs.offers.least_differing.Goals as goal

pub returns-in-empty : goal.returns-in-empty
returns-in-empty c =
    let d = λ (e : Event). differ c.args.level c.args.p.now c.args.q.now e in
    let members : (e : Event) → in_set c.add_differing-2.new.events.items e ≡ ((false || (is_offered c.args.p.now e && d e)) || (is_offered c.args.q.now e && d e)) = λ e.
    c.in_ok-add_differing-2.ensures e ∙ ap (λ b. b || (is_offered c.args.q.now e && d e)) (c.in_ok-add_differing.ensures e ∙ ap (λ l. in_set l e || (is_offered c.args.p.now e && d e)) c.new-events.ensures.items) in
    none_differing c.args.params.now c.args.level c.args.p.now c.args.q.now c.add_differing-2.new.events.items c.in_order-events.result.items members c.in_order-events.ensures
    (sym c.as_slice.ensures.value ∙ empty_list c.as_slice.result.now c.in-empty.len_below)

pub returns : goal.returns
returns c =
    let d = λ (e : Event). differ c.args.level c.args.p.now c.args.q.now e in
    let members : (e : Event) → in_set c.add_differing-2.new.events.items e ≡ ((false || (is_offered c.args.p.now e && d e)) || (is_offered c.args.q.now e && d e)) = λ e.
    c.in_ok-add_differing-2.ensures e ∙ ap (λ b. b || (is_offered c.args.q.now e && d e)) (c.in_ok-add_differing.ensures e ∙ ap (λ l. in_set l e || (is_offered c.args.p.now e && d e)) c.new-events.ensures.items) in
    let listed : IsListOf c.args.params.now c.add_differing-2.new.events.items c.as_slice.result.now = subst (λ (l : List Event). IsListOf c.args.params.now c.add_differing-2.new.events.items l) (sym c.as_slice.ensures.value) c.in_order-events.ensures in
    first_differing c.args.params.now c.args.level c.args.p.now c.args.q.now c.add_differing-2.new.events.items c.as_slice.result.now members listed _ (drop 1 c.as_slice.result.now) (front_list c.as_slice.result.now _ c.in-len1-up.len_at_least)
