use Rattle.std.proofs.Common.{ap, ◌∙◌}
use Rattle.occ_syntax.specs.Scopes.{environment}
use Rattle.occ_syntax.specs.Tree.{select, and_case}
use Rattle.occ_syntax.specs.View.{cases, exp, in_choices, tree}
use Rattle.occ_law_shape.specs.occ_law.Instances.{sizes}
use Rattle.occ_law_if.specs.Chosen.{in_front}
use Rattle.occ_law_if.proofs.Parting.{chosen_is, first_typed, second_typed}
use Rattle.occ_law_if.proofs.Putting.{put_behind}
use Rattle.occ_law_if.proofs.Rights.{swap_alone, swap_is, swap_only}
use Rattle.occ_law_if.proofs.right_placed.if_swap.Goals as goal

pub returns-in_default-divided : goal.returns-in_default-divided
returns-in_default-divided c =
    swap_alone c.args.scope.now (sizes c.args.place) (tree c.args.left.now) (cases c.in-Some.at.before.now) (cases c.in-Some.at.first.behind.now) (exp c.in-Some.at.first.condition.now)
    (tree c.in-Some.at.first.process.now) c.in-Some.ensures c.in_default-divided.ensures

pub exclude_each_other-requires-clause-first : goal.exclude_each_other-requires-clause-first
exclude_each_other-requires-clause-first c =
    first_typed (environment c.args.scope.now) (sizes c.args.place) (tree c.args.left.now) (cases c.in-Some.at.before.now) (cases c.in-Some.at.first.behind.now)
    (exp c.in-Some.at.first.condition.now) (tree c.in-Some.at.first.process.now) c.in-Some.ensures c.requires.left

pub exclude_each_other-requires-clause-second : goal.exclude_each_other-requires-clause-second
exclude_each_other-requires-clause-second c =
    second_typed (environment c.args.scope.now) (sizes c.args.place) (tree c.args.left.now) (cases c.in-Some.at.before.now) (cases c.in-Some.at.first.behind.now)
    (cases c.in-Some-divided.second.behind.now) (exp c.in-Some.at.first.condition.now) (exp c.in-Some-divided.second.condition.now) (tree c.in-Some.at.first.process.now) (tree c.in-Some-divided.second.process.now)
    c.in-Some.ensures c.in-Some-divided.ensures c.requires.left

pub returns-then-not-are_apart : goal.returns-then-not-are_apart
returns-then-not-are_apart c = λ r h.
    let k = swap_only c.args.scope.now (sizes c.args.place) (tree c.args.left.now) (cases c.in-Some.at.before.now) (cases c.in-Some-divided.second.behind.now) (exp c.in-Some.at.first.condition.now) (exp c.in-Some-divided.second.condition.now)
    (tree c.in-Some.at.first.process.now) (tree c.in-Some-divided.second.process.now) r
    (chosen_is (sizes c.args.place) (tree c.args.left.now) (cases c.in-Some.at.before.now) (and_case (exp c.in-Some.at.first.condition.now) (tree c.in-Some.at.first.process.now) (cases c.in-Some.at.first.behind.now))
    (and_case (exp c.in-Some.at.first.condition.now) (tree c.in-Some.at.first.process.now) (in_front c.in-Some-divided.second))
    c.in-Some.ensures (ap (and_case (exp c.in-Some.at.first.condition.now) (tree c.in-Some.at.first.process.now)) c.in-Some-divided.ensures)) h in
    cc (c.in_ok-are_apart.ensures.1 (k.1, k.2))

pub returns : goal.returns
returns c =
    swap_is c.args.scope.now (sizes c.args.place) (tree c.args.left.now) (cases c.in-Some.at.before.now) (cases c.in-Some-divided.second.behind.now) (exp c.in-Some.at.first.condition.now) (exp c.in-Some-divided.second.condition.now)
    (tree c.in-Some.at.first.process.now) (tree c.in-Some-divided.second.process.now) (tree c.in_ok-finished.field-0)
    (chosen_is (sizes c.args.place) (tree c.args.left.now) (cases c.in-Some.at.before.now) (and_case (exp c.in-Some.at.first.condition.now) (tree c.in-Some.at.first.process.now) (cases c.in-Some.at.first.behind.now))
    (and_case (exp c.in-Some.at.first.condition.now) (tree c.in-Some.at.first.process.now) (in_front c.in-Some-divided.second))
    c.in-Some.ensures (ap (and_case (exp c.in-Some.at.first.condition.now) (tree c.in-Some.at.first.process.now)) c.in-Some-divided.ensures)) (c.in_ok-are_apart.ensures.0 c.if-not-are_apart.false)
    (c.in_ok-finished.ensures ∙ ap select (c.in_ok-add_copy-2.ensures (cases c.in-Some-divided.second.behind.now) ∙ put_behind (and_case (exp c.in-Some-divided.second.condition.now) (tree c.in-Some-divided.second.process.now))
    (cases (in_choices c.in_ok-made.made)) (cases (in_choices c.add_copy.new.made)) (cases c.in-Some.at.before.now) (and_case (exp c.in-Some.at.first.condition.now) (tree c.in-Some.at.first.process.now) (cases c.in-Some-divided.second.behind.now))
    c.in_ok-made.ensures c.in_ok-add_copy.ensures))
