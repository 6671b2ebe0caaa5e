use Rattle.std.proofs.Common.{ap, ◌∙◌, get_or}
use Rattle.occ_syntax.specs.View.{in_choices}
use Rattle.occ_target.specs.Framed.{frame_of}
use Rattle.occ_target.specs.Rows.{variable_of}
use Rattle.occ_target.specs.States.{is_at}
use Rattle.occ_target.proofs.Left.{choices_in, choices_out, no_offer}
use Rattle.occ_target.proofs.events.Frame.choices.Goals as goal
use Rattle.occ_target.proofs.events.Frame.choices.Goals.{then-is_on+in_ok-condition+in_ok-part+in_ok-push, else-is_on}

pub loop-offer-preserved : goal.loop-offer-preserved
loop-offer-preserved c = elim c.if-is_on.branch [
  | then-is_on+in_ok-condition+in_ok-part+in_ok-push w ↦ choices_in (frame_of c.args.self.now) c.args.chan.0 c.args.offers.now c.loop-offer.offer-index no_offer (in_choices c.loop-offer.made) (in_choices c.if-is_on.made)
      w.in_ok-condition.condition w.in_ok-part.part c.is_on.result c.loop-offer-test.true c.loop-offer.invariant c.is_on.ensures w.if-is_on.true
      (w.in_ok-condition.ensures ∙ ap (λ x. is_at x c.width_in-width.result (get_or c.args.offers.now c.loop-offer.offer-index no_offer).0.value) c.variable_of-variable.ensures ∙ ap (λ v. is_at (variable_of c.args.self.now.inputs.now v) v (get_or c.args.offers.now c.loop-offer.offer-index no_offer).0.value) c.width_in-width.ensures)
      w.in_ok-part.ensures (ap in_choices w.made-is ∙ w.in_ok-push.ensures.ok)
  | else-is_on w ↦ choices_out (frame_of c.args.self.now) c.args.chan.0 c.args.offers.now c.loop-offer.offer-index no_offer (in_choices c.loop-offer.made) (in_choices c.if-is_on.made)
      c.is_on.result c.loop-offer-test.true c.loop-offer.invariant c.is_on.ensures w.if-is_on.false (ap in_choices w.made-is)
]
