use Rattle.occ_syntax.specs.View.{cases, exp, tree}
use Rattle.occ_law_if.proofs.Joins.{nest_test}
use Rattle.occ_law_if.proofs.placed.NestedChoicePlace.holds.Goals as goal

pub returns-in-If : goal.returns-in-If
returns-in-If c =
    nest_test (cases c.args.here.now.before.now) (cases c.args.here.now.rest.now) (cases c.args.here.now.others.now) (exp c.in-Some.first.condition.now)
    (tree c.in-Some.first.process.now) (cases c.in-Some.first.behind.now) (cases c.in-If.inner.now) _ c.in-Some.ensures c.in-If.ensures c.is_nested.ensures
