use Rattle.std.proofs.Common.{◌<◌, length, arith, ap, sym, ◌∙◌, true≢false}
use Rattle.occ_syntax.proofs.Rows.{confirmed, refuted}
use Rattle.occ_law_shape.specs.occ_law.Choice.{are_plain_events}
use Rattle.occ_law_shape.proofs.Fronts.{branches_end, branches_front}
use Rattle.occ_law_alt.proofs.Tests.{not_plain, plain_event_missing, plain_event_step, plain_missing}
use Rattle.occ_law_alt.proofs.guards.are_plain_events.Goals as goal

pub returns-then-not-is_truth : goal.returns-then-not-is_truth
returns-then-not-is_truth c =
    let some : 0 < length c.loop-rest.rest.now = omega arith in
    refuted (λ e. true≢false (sym e ∙ sym c.loop-rest.invariant
    ∙ plain_missing _ _ _ _ _ (branches_front c.loop-rest.rest.now c.branch-item.result some c.branch-item.is) (not_plain _ (λ k. cc (c.is_truth.ensures.1 k)))))

pub returns-then-not-is_event : goal.returns-then-not-is_event
returns-then-not-is_event c =
    let some : 0 < length c.loop-rest.rest.now = omega arith in
    refuted (λ e. true≢false (sym e ∙ sym c.loop-rest.invariant
    ∙ plain_event_missing _ _ _ _ _ (branches_front c.loop-rest.rest.now c.branch-item.result some c.branch-item.is) (sym c.is_event.ensures ∙ c.if-not-is_event.true)))

pub loop-rest-preserved : goal.loop-rest-preserved
loop-rest-preserved c =
    let some : 0 < length c.loop-rest.rest.now = omega arith in
    plain_event_step _ _ _ _ _ (branches_front c.loop-rest.rest.now c.branch-item.result some c.branch-item.is) (c.is_truth.ensures.0 c.if-not-is_truth.false) (sym c.is_event.ensures ∙ c.if-not-is_event.false)
    ∙ c.loop-rest.invariant

pub returns : goal.returns
returns c =
    let none : length c.loop-rest.rest.now < 1 = omega arith in
    confirmed (sym c.loop-rest.invariant ∙ ap are_plain_events (branches_end c.loop-rest.rest.now none))
