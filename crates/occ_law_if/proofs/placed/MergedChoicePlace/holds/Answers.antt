use Rattle.occ_syntax.specs.View.{cases, exp, tree}
use Rattle.occ_law_if.proofs.Joins.{merge_test}
use Rattle.occ_law_if.proofs.placed.MergedChoicePlace.holds.Goals as goal

pub returns : goal.returns
returns c =
    merge_test (cases c.args.here.now.before.now) (cases c.args.here.now.rest.now) (cases c.in-Some.first.behind.now) (cases c.args.here.now.others.now)
    (exp c.in-Some.first.condition.now) (exp c.in-Some-led_by.second.condition.now) (tree c.in-Some.first.process.now) (tree c.in-Some-led_by.second.process.now)
    (cases c.in-Some-led_by.second.behind.now) _ c.in-Some.ensures c.in-Some-led_by.ensures.0 c.in-Some-led_by.ensures.1 c.is_merged.ensures
