use Rattle.std.proofs.lemmas.Result.{IfOk-weaker}
use Rattle.occ_syntax.specs.Scopes.{environment}
use Rattle.occ_syntax.specs.View.{cases, exp, tree}
use Rattle.occ_law_if.proofs.Joins.{false_test, first_kept}
use Rattle.occ_law_if.proofs.placed.NeverChoicePlace.holds.Goals as goal

pub is_never-requires-clause-typed : goal.is_never-requires-clause-typed
is_never-requires-clause-typed c =
    (first_kept (environment c.args.self.now.scope.now) (cases c.args.here.now.before.now) (cases c.args.here.now.rest.now) (exp c.in-Some.first.condition.now)
    (tree c.in-Some.first.process.now) (cases c.in-Some.first.behind.now) c.requires.1 c.in-Some.ensures).0

pub returns : goal.returns
returns c =
    IfOk-weaker _ _ _ (λ answer. false_test c.args.self.now.scope.now (cases c.args.here.now.before.now) (cases c.args.here.now.rest.now) (cases c.args.here.now.others.now)
    (exp c.in-Some.first.condition.now) (tree c.in-Some.first.process.now) (cases c.in-Some.first.behind.now) answer c.in-Some.ensures
    (c.same_choices.ensures.0 c.if-not-same_choices.false)) c.is_never.ensures
