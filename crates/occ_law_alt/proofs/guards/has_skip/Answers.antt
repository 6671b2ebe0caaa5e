use Rattle.std.proofs.Common.{◌<◌, length, arith, ap, sym, ◌∙◌, true≢false}
use Rattle.occ_syntax.proofs.Rows.{confirmed, refuted}
use Rattle.occ_law_shape.specs.occ_law.Choice.{has_skip}
use Rattle.occ_law_shape.proofs.Fronts.{branches_end, branches_front}
use Rattle.occ_law_alt.proofs.Tests.{skip_found, skip_step}
use Rattle.occ_law_alt.proofs.guards.has_skip.Goals as goal

pub returns-then-is_skip : goal.returns-then-is_skip
returns-then-is_skip c =
    let some : 0 < length c.loop-rest.rest.now = omega arith in
    let is = c.is_skip.ensures.0 c.if-is_skip.true in
    confirmed (sym c.loop-rest.invariant ∙ skip_found _ _ _ _ _ (branches_front c.loop-rest.rest.now c.branch-item.result some c.branch-item.is) is.0 is.1)

pub loop-rest-preserved : goal.loop-rest-preserved
loop-rest-preserved c =
    let some : 0 < length c.loop-rest.rest.now = omega arith in
    skip_step _ _ _ _ _ (branches_front c.loop-rest.rest.now c.branch-item.result some c.branch-item.is) (λ e. cc (c.is_skip.ensures.1 e)) ∙ c.loop-rest.invariant

pub returns : goal.returns
returns c =
    let none : length c.loop-rest.rest.now < 1 = omega arith in
    refuted (λ e. true≢false (sym e ∙ sym c.loop-rest.invariant ∙ ap has_skip (branches_end c.loop-rest.rest.now none)))
