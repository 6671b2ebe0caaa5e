use Rattle.std.proofs.Common.{ap, ◌∙◌}
use Rattle.occ_syntax.specs.Scopes.{environment}
use Rattle.occ_syntax.specs.Tree.{select}
use Rattle.occ_syntax.specs.View.{cases, exp, tree}
use Rattle.occ_law_shape.specs.occ_law.Instances.{sizes}
use Rattle.occ_law_shape.specs.occ_law.Lists.{all_cases}
use Rattle.occ_law_if.proofs.Parting.{first_typed}
use Rattle.occ_law_if.proofs.Rights.{false_is, false_only}
use Rattle.occ_law_if.proofs.right_placed.if_false.Goals as goal

pub is_never-requires-clause-typed : goal.is_never-requires-clause-typed
is_never-requires-clause-typed c =
    first_typed (environment c.args.scope.now) (sizes c.args.place) (tree c.args.left.now) (cases c.in-Some.at.before.now) (cases c.in-Some.at.first.behind.now)
    (exp c.in-Some.at.first.condition.now) (tree c.in-Some.at.first.process.now) c.in-Some.ensures c.requires.left

pub returns-then-not-is_left_out : goal.returns-then-not-is_left_out
returns-then-not-is_left_out c = λ r h.
    let k = false_only c.args.scope.now (sizes c.args.place) (tree c.args.left.now) (cases c.in-Some.at.before.now) (cases c.in-Some.at.first.behind.now)
    (exp c.in-Some.at.first.condition.now) (tree c.in-Some.at.first.process.now) r c.in-Some.ensures h in
    cc (c.in_ok-is_left_out.ensures.1 (k.1, k.2))

pub returns : goal.returns
returns c =
    false_is c.args.scope.now (sizes c.args.place) (tree c.args.left.now) (cases c.in-Some.at.before.now) (cases c.in-Some.at.first.behind.now)
    (exp c.in-Some.at.first.condition.now) (tree c.in-Some.at.first.process.now) (tree c.in_ok-finished.field-0) c.in-Some.ensures
    (c.in_ok-is_left_out.ensures.0 c.if-not-is_left_out.false)
    (c.in_ok-finished.ensures ∙ ap (λ z. select (all_cases z (cases c.in-Some.at.first.behind.now))) c.in_ok-made.ensures)
