use Rattle.std.proofs.Common.{◌<◌, length, arith}
use Rattle.occ_syntax.specs.View.{cases, exp, in_choices, tree}
use Rattle.occ_law_shape.proofs.Fronts.{cases_end, cases_front}
use Rattle.occ_law_par.proofs.Putting.{choices_step, choices_whole, beside_is}
use Rattle.occ_law_par.proofs.made.choices_beside.Goals as goal

pub loop-rest-preserved : goal.loop-rest-preserved
loop-rest-preserved c =
    let some : 0 < length c.loop-rest.rest.now = omega arith in
    choices_step (in_choices c.loop-rest.made) (in_choices c.push.new.self) (c.in_ok-condition.condition, c.in_ok-whole.whole) (exp c.choice-item.result.0) (tree c.choice-item.result.1)
    (tree c.args.second.now) (cases c.args.choices.now) (cases c.loop-rest.rest.now) _ c.in_ok-push.ensures.ok c.in_ok-condition.ensures
    (beside_is _ _ _ _ _ c.in_ok-whole.ensures c.in_ok-one.ensures c.in_ok-other.ensures)
    (cases_front c.loop-rest.rest.now c.choice-item.result some c.choice-item.is) c.loop-rest.invariant

pub returns : goal.returns
returns c =
    let none : length c.loop-rest.rest.now < 1 = omega arith in
    choices_whole _ _ _ (tree c.args.second.now) (cases_end c.loop-rest.rest.now none) c.loop-rest.invariant
