use Rattle.std.proofs.Common.{◌<◌, length, arith, ap, sym, ◌∙◌, true≢false}
use Rattle.occ_syntax.proofs.Rows.{confirmed, refuted}
use Rattle.occ_law_shape.specs.occ_law.Choice.{are_events}
use Rattle.occ_law_shape.proofs.Fronts.{branches_end, branches_front}
use Rattle.occ_law_alt.proofs.Tests.{event_missing, event_step}
use Rattle.occ_law_alt.proofs.guards.are_events.Goals as goal

pub returns-then-not-is_event : goal.returns-then-not-is_event
returns-then-not-is_event c =
    let some : 0 < length c.loop-rest.rest.now = omega arith in
    refuted (λ e. true≢false (sym e ∙ sym c.loop-rest.invariant
    ∙ event_missing _ _ _ _ _ (branches_front c.loop-rest.rest.now c.branch-item.result some c.branch-item.is) (sym c.is_event.ensures ∙ c.if-not-is_event.true)))

pub loop-rest-preserved : goal.loop-rest-preserved
loop-rest-preserved c =
    let some : 0 < length c.loop-rest.rest.now = omega arith in
    event_step _ _ _ _ _ (branches_front c.loop-rest.rest.now c.branch-item.result some c.branch-item.is) (sym c.is_event.ensures ∙ c.if-not-is_event.false) ∙ c.loop-rest.invariant

pub returns : goal.returns
returns c =
    let none : length c.loop-rest.rest.now < 1 = omega arith in
    confirmed (sym c.loop-rest.invariant ∙ ap are_events (branches_end c.loop-rest.rest.now none))
