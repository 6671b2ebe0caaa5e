use Rattle.std.proofs.Common.{sym}
use Rattle.occ_syntax.specs.View.{cases, exp, tree}
use Rattle.occ_syntax.proofs.Rows.{refuted}
use Rattle.occ_law_shape.specs.occ_law.Choice.{each_case_under}
use Rattle.occ_law_if.proofs.Joins.{nested_differs, nested_ends, nested_is}
use Rattle.occ_law_if.proofs.placed.is_nested.Goals as goal

pub returns-in_default-divided : goal.returns-in_default-divided
returns-in_default-divided c =
    refuted (nested_ends (cases c.args.others.now) (each_case_under (exp c.args.first.now.condition.now) (cases c.args.inner.now)) (cases c.in-Some.rest.now)
    (exp c.args.first.now.condition.now) (cases c.args.first.now.behind.now) c.in-Some.ensures c.in_default-divided.ensures)

pub returns-then-not-same_expr : goal.returns-then-not-same_expr
returns-then-not-same_expr c =
    refuted (nested_differs (cases c.args.others.now) (each_case_under (exp c.args.first.now.condition.now) (cases c.args.inner.now)) (cases c.in-Some.rest.now)
    (exp c.args.first.now.condition.now) (exp c.in-Some-divided.last.condition.now) (tree c.in-Some-divided.last.process.now) (cases c.args.first.now.behind.now)
    (cases c.in-Some-divided.last.behind.now) c.in-Some.ensures c.in-Some-divided.ensures (λ e. cc (c.same_expr.ensures.1 e.0)))

pub returns-then-not-is_stop : goal.returns-then-not-is_stop
returns-then-not-is_stop c =
    refuted (nested_differs (cases c.args.others.now) (each_case_under (exp c.args.first.now.condition.now) (cases c.args.inner.now)) (cases c.in-Some.rest.now)
    (exp c.args.first.now.condition.now) (exp c.in-Some-divided.last.condition.now) (tree c.in-Some-divided.last.process.now) (cases c.args.first.now.behind.now)
    (cases c.in-Some-divided.last.behind.now) c.in-Some.ensures c.in-Some-divided.ensures (λ e. cc (c.is_stop.ensures.1 e.1)))

pub returns : goal.returns
returns c =
    nested_is (cases c.args.others.now) (each_case_under (exp c.args.first.now.condition.now) (cases c.args.inner.now)) (cases c.in-Some.rest.now)
    (exp c.args.first.now.condition.now) (exp c.in-Some-divided.last.condition.now) (tree c.in-Some-divided.last.process.now) (cases c.args.first.now.behind.now)
    (cases c.in-Some-divided.last.behind.now) _ c.in-Some.ensures c.in-Some-divided.ensures (c.same_expr.ensures.0 c.if-not-same_expr.false)
    (sym (c.is_stop.ensures.0 c.if-not-is_stop.false)) c.same_choices.ensures
