use Rattle.std.proofs.Common.{◌≡◌, ℕ, ◌+◌, ◌||◌, ◌&&◌, not, List, take, sym, ap, ◌∙◌}
use Rattle.occ_syntax.specs.occ_base.declared.event.Event.{Event}
use Rattle.occ_node.specs.occ_accept.Accept.{in_set}
use Rattle.occ_node.specs.Offers.{is_offered}
use Rattle.occ_node.specs.declared.node.NodeId.{NodeId}
use Rattle.occ_compare.proofs.Searching.{more_added, more_left}
use Rattle.occ_compare.proofs.offers.add_outside.Goals as goal
use Rattle.occ_compare.proofs.offers.add_outside.Goals.{then-not-has+in_ok-push, else-not-has}

pub loop-offer-preserved : goal.loop-offer-preserved
loop-offer-preserved c e =
    let same = c.items-offer-items.ensures in
    let test = λ (f : Event). not (in_set c.args.set.now f) in
    let said = λ (f : Event) (k : ℕ) (l : List (Event × NodeId)). in_set c.args.events.now.items f || (is_offered (take k l) f && not (in_set c.args.set.now f)) in
    let so_far : (f : Event) → in_set c.loop-offer.events.items f ≡ said f c.loop-offer.offer-index c.items-offer-items.result.now = λ f. c.loop-offer.invariant f ∙ ap (said f c.loop-offer.offer-index) (sym same) in
    let next : in_set c.if-not-has.events.items e ≡ said e (c.loop-offer.offer-index + 1) c.items-offer-items.result.now = elim c.if-not-has.branch [
      | then-not-has+in_ok-push w ↦ more_added test c.args.events.now.items c.items-offer-items.result.now c.loop-offer.offer-index _ c.loop-offer-test.true c.loop-offer.events.items c.if-not-has.events.items
          (ap (λ v. v.items) w.events-is ∙ w.in_ok-push.ensures.items) (ap not (sym c.has.ensures ∙ w.if-not-has.true)) so_far e
      | else-not-has w ↦ ap (λ v. in_set v.items e) w.events-is ∙ more_left test c.args.events.now.items c.items-offer-items.result.now c.loop-offer.offer-index _ c.loop-offer-test.true c.loop-offer.events.items
          (ap not (sym c.has.ensures ∙ w.if-not-has.false)) so_far e
    ] in
    next ∙ ap (said e (c.loop-offer.offer-index + 1)) same
