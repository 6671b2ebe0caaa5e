use Rattle.occ_target.proofs.Left.{chosen_done, chosen_in, chosen_out, no_offer, nothing_left}
use Rattle.occ_target.proofs.row.chosen.Goals as goal
use Rattle.occ_target.proofs.row.chosen.Goals.{then-is_at_place+in_ok-push, else-is_at_place}
use Rattle.std.proofs.Common.{ap, ◌∙◌, ◌+◌, ◌++◌, drop}
use Rattle.occ_target.specs.Rows.{chosen}

pub loop-offer-preserved : goal.loop-offer-preserved
loop-offer-preserved c =
    elim c.if-is_at_place.branch [
      | then-is_at_place+in_ok-push w ↦ ap (λ k. c.if-is_at_place.found ++ chosen (drop k c.args.set.now) (drop (c.loop-offer.offer-index + 1) c.args.offers.now)) w.place-is ∙ chosen_in c.args.set.now c.args.offers.now c.loop-offer.place c.loop-offer.offer-index no_offer c.loop-offer.found c.if-is_at_place.found c.is_at_place.result
          c.loop-offer-test.true c.loop-offer.invariant c.is_at_place.ensures.first w.if-is_at_place.true (w.found-is ∙ w.in_ok-push.ensures.ok)
      | else-is_at_place w ↦ ap (λ k. c.if-is_at_place.found ++ chosen (drop k c.args.set.now) (drop (c.loop-offer.offer-index + 1) c.args.offers.now)) w.place-is ∙ chosen_out c.args.set.now c.args.offers.now c.loop-offer.place c.loop-offer.offer-index no_offer c.loop-offer.found c.if-is_at_place.found c.is_at_place.result
          c.loop-offer-test.true c.loop-offer.invariant c.is_at_place.ensures.first w.if-is_at_place.false w.found-is
    ]

pub returns : goal.returns
returns c = nothing_left _ _ _ c.loop-offer.invariant (chosen_done _ c.args.offers.now c.loop-offer.offer-index c.loop-offer-test.false)
