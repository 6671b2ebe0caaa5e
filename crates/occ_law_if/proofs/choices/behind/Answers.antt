use Rattle.std.proofs.Common.{◌<◌, length, arith}
use Rattle.occ_law_shape.proofs.Fronts.{cases_end, cases_front}
use Rattle.occ_law_if.proofs.Fronts.{behind_differs, behind_ends, behind_step, behind_whole}
use Rattle.occ_law_if.proofs.choices.behind.Goals as goal

pub returns-in_default-rest : goal.returns-in_default-rest
returns-in_default-rest c =
    let some : 0 < length c.loop-front.front.now = omega arith in
    let none : length c.loop-front.rest.now < 1 = omega arith in
    behind_ends _ _ _ _ _ _ _ (cases_front c.loop-front.front.now c.choice-item.result some c.choice-item.is) (cases_end c.loop-front.rest.now none) c.loop-front.invariant

pub returns-then-not-same_expr : goal.returns-then-not-same_expr
returns-then-not-same_expr c =
    let some : 0 < length c.loop-front.front.now = omega arith in
    let other : 0 < length c.loop-front.rest.now = omega arith in
    behind_differs _ _ _ _ _ _ _ _ _ _ (cases_front c.loop-front.front.now c.choice-item.result some c.choice-item.is) (cases_front c.loop-front.rest.now c.other-item.result other c.other-item.is)
    (λ e. cc (c.same_expr.ensures.1 e.0)) c.loop-front.invariant

pub returns-then-not-same_proc : goal.returns-then-not-same_proc
returns-then-not-same_proc c =
    let some : 0 < length c.loop-front.front.now = omega arith in
    let other : 0 < length c.loop-front.rest.now = omega arith in
    behind_differs _ _ _ _ _ _ _ _ _ _ (cases_front c.loop-front.front.now c.choice-item.result some c.choice-item.is) (cases_front c.loop-front.rest.now c.other-item.result other c.other-item.is)
    (λ e. cc (c.same_proc.ensures.1 e.1)) c.loop-front.invariant

pub loop-front-preserved : goal.loop-front-preserved
loop-front-preserved c =
    let some : 0 < length c.loop-front.front.now = omega arith in
    let other : 0 < length c.loop-front.rest.now = omega arith in
    behind_step _ _ _ _ _ _ _ _ _ _ (cases_front c.loop-front.front.now c.choice-item.result some c.choice-item.is) (cases_front c.loop-front.rest.now c.other-item.result other c.other-item.is)
    (c.same_expr.ensures.0 c.if-not-same_expr.false) (c.same_proc.ensures.0 c.if-not-same_proc.false) c.loop-front.invariant

pub returns : goal.returns
returns c =
    let none : length c.loop-front.front.now < 1 = omega arith in
    behind_whole _ _ _ _ (cases_end c.loop-front.front.now none) c.loop-front.invariant
