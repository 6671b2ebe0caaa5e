use Rattle.occ_syntax.specs.View.{cases, exp, tree}
use Rattle.occ_syntax.proofs.Rows.{refuted}
use Rattle.occ_law_shape.proofs.Fronts.{test_of}
use Rattle.occ_law_if.proofs.Fronts.{cases_none, none_of_cases}
use Rattle.occ_law_if.proofs.Sides.{else_stop_is, else_stop_longer, else_stop_other}
use Rattle.occ_law_if.proofs.simple.is_else_stop.Goals as goal

pub returns-then-not-is_empty : goal.returns-then-not-is_empty
returns-then-not-is_empty c =
    refuted (else_stop_longer (cases c.args.choices.now) (exp c.in-Some.first.condition.now) (tree c.in-Some.first.process.now) (cases c.in-Some.first.behind.now) c.in-Some.ensures
    (λ e. cc ((test_of _ _ c.is_empty.ensures).1 (none_of_cases c.in-Some.first.behind.now e))))

pub returns-then-not-is_truth : goal.returns-then-not-is_truth
returns-then-not-is_truth c =
    refuted (else_stop_other (cases c.args.choices.now) (exp c.in-Some.first.condition.now) (tree c.in-Some.first.process.now) (cases c.in-Some.first.behind.now) c.in-Some.ensures
    (λ e. cc (c.is_truth.ensures.1 e)))

pub returns-else-not-is_truth : goal.returns-else-not-is_truth
returns-else-not-is_truth c =
    else_stop_is (cases c.args.choices.now) (exp c.in-Some.first.condition.now) (tree c.in-Some.first.process.now) (cases c.in-Some.first.behind.now) _ c.in-Some.ensures
    (cases_none c.in-Some.first.behind.now ((test_of _ _ c.is_empty.ensures).0 c.if-not-is_empty.false)) (c.is_truth.ensures.0 c.if-not-is_truth.false) c.is_stop.ensures
