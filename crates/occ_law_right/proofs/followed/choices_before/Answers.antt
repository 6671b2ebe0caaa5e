use Rattle.std.proofs.Common.{◌<◌, length, arith, ap}
use Rattle.occ_syntax.specs.View.{trees}
use Rattle.occ_law_seq.specs.occ_law.Sequence.{each_case_before}
use Rattle.occ_law_seq.proofs.from_law_shape.Fronts.{cases_end, cases_front}
use Rattle.occ_law_right.proofs.Growing.{choices_done, choice_step}
use Rattle.occ_law_right.proofs.followed.choices_before.Goals as goal

pub loop-rest-preserved : goal.loop-rest-preserved
loop-rest-preserved c =
    let some : 0 < length c.loop-rest.rest.now = omega arith in
    choice_step _ _ _ _ _ _ _ _ _ (ap (λ z. each_case_before z (trees c.args.behind.now)) (cases_front c.loop-rest.rest.now c.choice-item.result some c.choice-item.is))
    c.in_ok-condition.ensures c.in_ok-part.ensures c.in_ok-add_choice.ensures c.loop-rest.invariant

pub returns : goal.returns
returns c =
    let none : length c.loop-rest.rest.now < 1 = omega arith in
    choices_done _ _ _ (ap (λ z. each_case_before z (trees c.args.behind.now)) (cases_end c.loop-rest.rest.now none)) c.loop-rest.invariant
