use Rattle.std.proofs.Common.{◌<◌, length, arith}
use Rattle.occ_syntax.specs.View.{tree}
use Rattle.occ_syntax.proofs.Rows.{confirmed, refuted}
use Rattle.occ_law_shape.proofs.Fronts.{cases_end, cases_front}
use Rattle.occ_law_if.proofs.Fronts.{copies_differ, copies_step, copies_whole}
use Rattle.occ_law_if.proofs.choices.are_copies.Goals as goal

pub returns-then-not-same_proc : goal.returns-then-not-same_proc
returns-then-not-same_proc c =
    let some : 0 < length c.loop-rest.rest.now = omega arith in
    refuted (copies_differ _ _ _ (tree c.args.part.now) _ (cases_front c.loop-rest.rest.now c.choice-item.result some c.choice-item.is) (λ e. cc (c.same_proc.ensures.1 e)) c.loop-rest.invariant)

pub loop-rest-preserved : goal.loop-rest-preserved
loop-rest-preserved c =
    let some : 0 < length c.loop-rest.rest.now = omega arith in
    copies_step _ _ _ (tree c.args.part.now) _ (cases_front c.loop-rest.rest.now c.choice-item.result some c.choice-item.is) (c.same_proc.ensures.0 c.if-not-same_proc.false) c.loop-rest.invariant

pub returns : goal.returns
returns c =
    let none : length c.loop-rest.rest.now < 1 = omega arith in
    confirmed (copies_whole _ (tree c.args.part.now) (cases_end c.loop-rest.rest.now none) c.loop-rest.invariant)
