use Rattle.std.proofs.Common.{refl}
use Rattle.occ_syntax.specs.View.{cases, exp, tree}
use Rattle.occ_syntax.proofs.Rows.{refuted}
use Rattle.occ_law_shape.proofs.Fronts.{test_of}
use Rattle.occ_law_if.proofs.Fronts.{cases_none, none_of_cases}
use Rattle.occ_law_if.proofs.Sides.{else_stop_is, else_stop_longer, else_stop_other}
use Rattle.occ_law_if.specs.Chosen.{in_front}
use Rattle.occ_law_if.proofs.right_placed.is_else_stop.Goals as goal

pub returns-then-not-is_empty : goal.returns-then-not-is_empty
returns-then-not-is_empty c =
    refuted (else_stop_longer (in_front c.args.first.now) (exp c.args.first.now.condition.now) (tree c.args.first.now.process.now) (cases c.args.first.now.behind.now) refl
    (λ e. cc ((test_of _ _ c.is_empty.ensures).1 (none_of_cases c.args.first.now.behind.now e))))

pub returns-then-not-is_truth : goal.returns-then-not-is_truth
returns-then-not-is_truth c =
    refuted (else_stop_other (in_front c.args.first.now) (exp c.args.first.now.condition.now) (tree c.args.first.now.process.now) (cases c.args.first.now.behind.now) refl
    (λ e. cc (c.is_truth.ensures.1 e)))

pub returns : goal.returns
returns c =
    else_stop_is (in_front c.args.first.now) (exp c.args.first.now.condition.now) (tree c.args.first.now.process.now) (cases c.args.first.now.behind.now) _ refl
    (cases_none c.args.first.now.behind.now ((test_of _ _ c.is_empty.ensures).0 c.if-not-is_empty.false)) (c.is_truth.ensures.0 c.if-not-is_truth.false) c.is_stop.ensures
