use Rattle.std.proofs.Common.{◌||◌, ◌&&◌, List, sym, ap, ◌∙◌, arith}
use Rattle.std.proofs.lemmas.List.{take_all}
use Rattle.occ_syntax.specs.occ_base.declared.event.Event.{Event}
use Rattle.occ_refine.specs.occ_accept.Accept.{in_set}
use Rattle.occ_refine.specs.occ_node.Offers.{is_offered}
use Rattle.occ_refine.specs.occ_node.declared.node.NodeId.{NodeId}
use Rattle.occ_refine.proofs.from_compare.Searching.{more_added, more_left}
use Rattle.occ_traces.specs.Choosers.{is_wanted}
use Rattle.occ_traces.proofs.choices.add_wanted.Goals as goal
use Rattle.occ_traces.proofs.choices.add_wanted.Goals.{then-is_wanted+in_ok-push, else-is_wanted}

pub loop-offer-preserved : goal.loop-offer-preserved
loop-offer-preserved c e =
    let test = λ (f : Event). is_wanted c.args.world.now c.args.node c.args.refused f in
    let items = c.items-offer-items.result.now in
    elim c.if-is_wanted.branch [
      | then-is_wanted+in_ok-push w ↦ more_added test c.args.events.now.items items c.loop-offer.offer-index _ c.loop-offer-test.true c.loop-offer.events.items c.if-is_wanted.events.items
          (ap (λ v. v.items) w.events-is ∙ w.in_ok-push.ensures.items) (sym c.is_wanted.ensures ∙ w.if-is_wanted.true) c.loop-offer.invariant e
      | else-is_wanted w ↦ ap (λ v. in_set v.items e) w.events-is ∙ more_left test c.args.events.now.items items c.loop-offer.offer-index _ c.loop-offer-test.true c.loop-offer.events.items
          (sym c.is_wanted.ensures ∙ w.if-is_wanted.false) c.loop-offer.invariant e
    ]

pub returns : goal.returns
returns c e =
    let w = c.args.world.now in
    let all = take_all c.loop-offer.offer-index c.items-offer-items.result.now (omega (arith, c.loop-offer-test.false)) ∙ c.items-offer-items.ensures ∙ ap (λ r. r.offers) c.row.ensures.row in
    c.loop-offer.invariant e ∙ ap (λ (l : List (Event × NodeId)). in_set c.args.events.now.items e || (is_offered l e && is_wanted w c.args.node c.args.refused e)) all
