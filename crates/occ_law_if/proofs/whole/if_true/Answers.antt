use Rattle.std.proofs.Common.{[], ◌∷◌}
use Rattle.occ_syntax.specs.Scopes.{environment}
use Rattle.occ_syntax.specs.View.{cases, exp, tree}
use Rattle.occ_law_shape.specs.occ_law.Instances.{sizes}
use Rattle.occ_law_if.proofs.Parting.{first_typed}
use Rattle.occ_law_if.proofs.Rights.{true_chosen, true_is, true_only}
use Rattle.occ_law_if.proofs.whole.if_true.Goals as goal

pub returns-in_default : goal.returns-in_default
returns-in_default c = true_chosen c.args.scope.now (sizes c.args.place) (tree c.args.left.now) c.in_default.ensures

pub is_always-requires-clause-typed : goal.is_always-requires-clause-typed
is_always-requires-clause-typed c =
    first_typed (environment c.args.scope.now) (0 ∷ []) (tree c.args.left.now) (cases c.in-Some.at.before.now) (cases c.in-Some.at.first.behind.now)
    (exp c.in-Some.at.first.condition.now) (tree c.in-Some.at.first.process.now) c.in-Some.ensures c.requires.left

pub returns-then-not-is_taken : goal.returns-then-not-is_taken
returns-then-not-is_taken c = λ r h.
    let k = true_only c.args.scope.now (sizes c.args.place) (tree c.args.left.now) (cases c.in-Some.at.before.now) (cases c.in-Some.at.first.behind.now)
    (exp c.in-Some.at.first.condition.now) (tree c.in-Some.at.first.process.now) r c.in-Some.ensures h in
    cc (c.in_ok-is_taken.ensures.1 (k.1, k.2))

pub returns : goal.returns
returns c =
    true_is c.args.scope.now (sizes c.args.place) (tree c.args.left.now) (cases c.in-Some.at.before.now) (cases c.in-Some.at.first.behind.now)
    (exp c.in-Some.at.first.condition.now) (tree c.in-Some.at.first.process.now) (tree c.in_ok-copy.field-0)
    (c.is_whole.ensures.0 c.if-not-is_whole.false) c.in-Some.ensures (c.in_ok-is_taken.ensures.0 c.if-not-is_taken.false) c.in_ok-copy.ensures
