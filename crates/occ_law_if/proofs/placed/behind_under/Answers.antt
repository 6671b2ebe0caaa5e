use Rattle.std.proofs.Common.{◌<◌, length, arith}
use Rattle.occ_syntax.specs.View.{exp}
use Rattle.occ_law_shape.proofs.Fronts.{cases_end, cases_front}
use Rattle.occ_law_if.proofs.Joins.{under_differs, under_ends, under_step, under_whole}
use Rattle.occ_law_if.proofs.placed.behind_under.Goals as goal

pub returns-in_default-rest : goal.returns-in_default-rest
returns-in_default-rest c =
    let some : 0 < length c.loop-front.front.now = omega arith in
    let none : length c.loop-front.rest.now < 1 = omega arith in
    under_ends (exp c.args.condition.now) _ _ _ _ _ _ _ (cases_front c.loop-front.front.now c.choice-item.result some c.choice-item.is) (cases_end c.loop-front.rest.now none) c.loop-front.invariant

pub returns-then-not-is_operation : goal.returns-then-not-is_operation
returns-then-not-is_operation c =
    let some : 0 < length c.loop-front.front.now = omega arith in
    let other : 0 < length c.loop-front.rest.now = omega arith in
    under_differs (exp c.args.condition.now) _ _ _ _ _ _ _ _ _ _ (cases_front c.loop-front.front.now c.choice-item.result some c.choice-item.is)
    (cases_front c.loop-front.rest.now c.other-item.result other c.other-item.is) (λ e. cc (c.is_operation.ensures.1 e.0)) c.loop-front.invariant

pub returns-then-not-same_proc : goal.returns-then-not-same_proc
returns-then-not-same_proc c =
    let some : 0 < length c.loop-front.front.now = omega arith in
    let other : 0 < length c.loop-front.rest.now = omega arith in
    under_differs (exp c.args.condition.now) _ _ _ _ _ _ _ _ _ _ (cases_front c.loop-front.front.now c.choice-item.result some c.choice-item.is)
    (cases_front c.loop-front.rest.now c.other-item.result other c.other-item.is) (λ e. cc (c.same_proc.ensures.1 e.1)) c.loop-front.invariant

pub loop-front-preserved : goal.loop-front-preserved
loop-front-preserved c =
    let some : 0 < length c.loop-front.front.now = omega arith in
    let other : 0 < length c.loop-front.rest.now = omega arith in
    under_step (exp c.args.condition.now) _ _ _ _ _ _ _ _ _ _ (cases_front c.loop-front.front.now c.choice-item.result some c.choice-item.is)
    (cases_front c.loop-front.rest.now c.other-item.result other c.other-item.is) (c.is_operation.ensures.0 c.if-not-is_operation.false) (c.same_proc.ensures.0 c.if-not-same_proc.false)
    c.loop-front.invariant

pub returns : goal.returns
returns c =
    let none : length c.loop-front.front.now < 1 = omega arith in
    under_whole (exp c.args.condition.now) _ _ _ _ (cases_end c.loop-front.front.now none) c.loop-front.invariant
