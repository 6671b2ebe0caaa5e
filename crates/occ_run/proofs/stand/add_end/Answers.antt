use Rattle.std.proofs.Common.{Bool, sym, ◌∙◌}
use Rattle.std.specs.List.{list_any}
use Rattle.occ_syntax.specs.occ_base.declared.event.Event.{Event}
use Rattle.occ_run.specs.MeetingRuns.{has}
use Rattle.occ_run.proofs.Refusing.{kept_further, left_further}
use Rattle.occ_run.proofs.stand.add_end.Goals as goal
use Rattle.occ_run.proofs.stand.add_end.Goals.{then-not-has_event+in_ok-push, else-not-has_event}

pub loop-number-preserved : goal.loop-number-preserved
loop-number-preserved c =
    let heard : Event → Bool = λ e. list_any (has e) c.args.runs.now in
    elim c.if-not-has_event.branch [
      | then-not-has_event+in_ok-push w ↦ w.events-is ∙ kept_further heard c.args.end c.loop-number.number c.args.events.now c.loop-number.events _ c.loop-number.invariant w.in_ok-push.ensures.ok (sym c.has_event.ensures ∙ w.if-not-has_event.true)
      | else-not-has_event w ↦ w.events-is ∙ left_further heard c.args.end c.loop-number.number c.args.events.now c.loop-number.events c.loop-number.invariant (sym c.has_event.ensures ∙ w.if-not-has_event.false)
    ]
