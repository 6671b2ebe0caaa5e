use Rattle.std.proofs.lemmas.Result.{IfOk-weaker}
use Rattle.occ_syntax.specs.Scopes.{environment}
use Rattle.occ_syntax.specs.View.{cases, exp, tree}
use Rattle.occ_syntax.proofs.Rows.{refuted}
use Rattle.occ_law_shape.proofs.Typed.{all_cases_kept, conditions_typed}
use Rattle.occ_law_if.proofs.Joins.{first_kept}
use Rattle.occ_law_if.proofs.Taken.{under_differs, under_test}
use Rattle.occ_law_if.proofs.under.UnderChoicePlace.holds.Goals as goal

pub returns-then-not-same_expr : goal.returns-then-not-same_expr
returns-then-not-same_expr c =
    refuted (under_differs c.args.self.now.scope.now (cases c.args.here.now.before.now) (cases c.args.here.now.rest.now) (cases c.args.here.now.others.now)
    (exp c.in-Some.first.condition.now) (exp c.in-Some-divided.other.condition.now) (tree c.in-Some.first.process.now) (tree c.in-Some-divided.other.process.now)
    (cases c.in-Some.first.behind.now) (cases c.in-Some-divided.other.behind.now) c.in-Some.ensures c.in-Some-divided.ensures (λ e. cc (c.same_expr.ensures.1 e.0)))

pub returns-then-not-same_choices : goal.returns-then-not-same_choices
returns-then-not-same_choices c =
    refuted (under_differs c.args.self.now.scope.now (cases c.args.here.now.before.now) (cases c.args.here.now.rest.now) (cases c.args.here.now.others.now)
    (exp c.in-Some.first.condition.now) (exp c.in-Some-divided.other.condition.now) (tree c.in-Some.first.process.now) (tree c.in-Some-divided.other.process.now)
    (cases c.in-Some.first.behind.now) (cases c.in-Some-divided.other.behind.now) c.in-Some.ensures c.in-Some-divided.ensures (λ e. cc (c.same_choices.ensures.1 e.1)))

pub processes_equal-requires-clause-ready : goal.processes_equal-requires-clause-ready
processes_equal-requires-clause-ready c = (
  c.requires.0,
  (first_kept (environment c.args.self.now.scope.now) (cases c.args.here.now.before.now) (cases c.args.here.now.rest.now) (exp c.in-Some.first.condition.now)
      (tree c.in-Some.first.process.now) (cases c.in-Some.first.behind.now) c.requires.1 c.in-Some.ensures).0,
  conditions_typed (environment c.args.self.now.scope.now) (cases c.args.here.now.before.now)
      (all_cases_kept (environment c.args.self.now.scope.now) (cases c.args.here.now.before.now) (cases c.args.here.now.rest.now) c.requires.1).0,
)

pub processes_equal-requires-clause-left : goal.processes_equal-requires-clause-left
processes_equal-requires-clause-left c =
    (first_kept (environment c.args.self.now.scope.now) (cases c.args.here.now.before.now) (cases c.args.here.now.rest.now) (exp c.in-Some.first.condition.now)
    (tree c.in-Some.first.process.now) (cases c.in-Some.first.behind.now) c.requires.1 c.in-Some.ensures).1

pub processes_equal-requires-clause-right : goal.processes_equal-requires-clause-right
processes_equal-requires-clause-right c =
    (first_kept (environment c.args.self.now.scope.now) (cases c.args.here.now.before.now) (cases c.args.here.now.others.now) (exp c.in-Some-divided.other.condition.now)
    (tree c.in-Some-divided.other.process.now) (cases c.in-Some-divided.other.behind.now) c.requires.2 c.in-Some-divided.ensures).1

pub returns : goal.returns
returns c =
    IfOk-weaker _ _ _ (λ answer. under_test c.args.self.now.scope.now (cases c.args.here.now.before.now) (cases c.args.here.now.rest.now) (cases c.args.here.now.others.now)
    (exp c.in-Some.first.condition.now) (exp c.in-Some-divided.other.condition.now) (tree c.in-Some.first.process.now) (tree c.in-Some-divided.other.process.now)
    (cases c.in-Some.first.behind.now) (cases c.in-Some-divided.other.behind.now) answer c.in-Some.ensures c.in-Some-divided.ensures
    (c.same_expr.ensures.0 c.if-not-same_expr.false) (c.same_choices.ensures.0 c.if-not-same_choices.false)) c.processes_equal.ensures
