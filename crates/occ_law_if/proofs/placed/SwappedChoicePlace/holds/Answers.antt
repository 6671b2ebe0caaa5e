use Rattle.std.proofs.lemmas.Result.{IfOk-weaker}
use Rattle.occ_syntax.specs.Scopes.{environment}
use Rattle.occ_syntax.specs.Tree.{no_case}
use Rattle.occ_syntax.specs.View.{cases, exp, tree}
use Rattle.occ_law_if.proofs.Joins.{first_kept, swap_test}
use Rattle.occ_law_if.proofs.placed.SwappedChoicePlace.holds.Goals as goal

pub exclude_each_other-requires-clause-first : goal.exclude_each_other-requires-clause-first
exclude_each_other-requires-clause-first c =
    (first_kept (environment c.args.self.now.scope.now) (cases c.args.here.now.before.now) (cases c.args.here.now.rest.now) (exp c.in-Some.first.condition.now)
    (tree c.in-Some.first.process.now) (cases c.in-Some.first.behind.now) c.requires.1 c.in-Some.ensures).0

pub exclude_each_other-requires-clause-second : goal.exclude_each_other-requires-clause-second
exclude_each_other-requires-clause-second c =
    let kept = first_kept (environment c.args.self.now.scope.now) (cases c.args.here.now.before.now) (cases c.args.here.now.rest.now) (exp c.in-Some.first.condition.now)
    (tree c.in-Some.first.process.now) (cases c.in-Some.first.behind.now) c.requires.1 c.in-Some.ensures in
    (first_kept (environment c.args.self.now.scope.now) no_case (cases c.in-Some.first.behind.now) (exp c.in-Some-divided.second.condition.now)
    (tree c.in-Some-divided.second.process.now) (cases c.in-Some-divided.second.behind.now) kept.2 c.in-Some-divided.ensures).0

pub returns : goal.returns
returns c =
    IfOk-weaker _ _ _ (λ answer. swap_test c.args.self.now.scope.now (cases c.args.here.now.before.now) (cases c.args.here.now.rest.now) (cases c.in-Some.first.behind.now)
    (cases c.args.here.now.others.now) (exp c.in-Some.first.condition.now) (exp c.in-Some-divided.second.condition.now) (tree c.in-Some.first.process.now)
    (tree c.in-Some-divided.second.process.now) (cases c.in-Some-divided.second.behind.now) answer c.in-Some.ensures c.in-Some-divided.ensures
    (c.is_turned.ensures.0 c.if-not-is_turned.false)) c.exclude_each_other.ensures
