use Rattle.std.proofs.Common.{ap, ◌∙◌}
use Rattle.occ_syntax.specs.declared.expr.Op.TheVariants.{Or}
use Rattle.occ_syntax.specs.Tree.{operation, select, and_case}
use Rattle.occ_syntax.specs.View.{cases, exp, in_choices, tree}
use Rattle.occ_law_shape.specs.occ_law.Instances.{sizes}
use Rattle.occ_law_if.specs.Chosen.{in_front}
use Rattle.occ_law_if.proofs.Parting.{chosen_is}
use Rattle.occ_law_if.proofs.Putting.{put_as, put_behind}
use Rattle.occ_law_if.proofs.Rights.{merge_alone, merge_is, merge_never}
use Rattle.occ_law_if.proofs.right_placed.if_merge.Goals as goal

pub returns-in_default-divided : goal.returns-in_default-divided
returns-in_default-divided c =
    merge_alone (sizes c.args.place) (tree c.args.left.now) (cases c.in-Some.at.before.now) (cases c.in-Some.at.first.behind.now) (exp c.in-Some.at.first.condition.now)
    (tree c.in-Some.at.first.process.now) c.in-Some.ensures c.in_default-divided.ensures

pub returns-then-not-same_proc : goal.returns-then-not-same_proc
returns-then-not-same_proc c =
    merge_never (sizes c.args.place) (tree c.args.left.now) (cases c.in-Some.at.before.now) (cases c.in-Some-divided.second.behind.now) (exp c.in-Some.at.first.condition.now) (exp c.in-Some-divided.second.condition.now)
    (tree c.in-Some.at.first.process.now) (tree c.in-Some-divided.second.process.now)
    (chosen_is (sizes c.args.place) (tree c.args.left.now) (cases c.in-Some.at.before.now) (and_case (exp c.in-Some.at.first.condition.now) (tree c.in-Some.at.first.process.now) (cases c.in-Some.at.first.behind.now))
    (and_case (exp c.in-Some.at.first.condition.now) (tree c.in-Some.at.first.process.now) (in_front c.in-Some-divided.second))
    c.in-Some.ensures (ap (and_case (exp c.in-Some.at.first.condition.now) (tree c.in-Some.at.first.process.now)) c.in-Some-divided.ensures)) (λ e. cc (c.same_proc.ensures.1 e))

pub returns : goal.returns
returns c =
    let either = operation Or (exp c.in-Some.at.first.condition.now) (exp c.in-Some-divided.second.condition.now) in
    let part = (tree c.in-Some.at.first.process.now) in
    let put = put_as (cases (in_choices c.in_ok-made.made)) (cases (in_choices c.add.new.made)) (exp c.in_ok-either.either) either (tree c.in_ok-copy.field-0) part
    c.in_ok-either.ensures c.in_ok-copy.ensures c.in_ok-add.ensures in
    merge_is (sizes c.args.place) (tree c.args.left.now) (cases c.in-Some.at.before.now) (cases c.in-Some-divided.second.behind.now) (exp c.in-Some.at.first.condition.now) (exp c.in-Some-divided.second.condition.now)
    part (tree c.in-Some-divided.second.process.now) (tree c.in_ok-finished.field-0)
    (chosen_is (sizes c.args.place) (tree c.args.left.now) (cases c.in-Some.at.before.now) (and_case (exp c.in-Some.at.first.condition.now) (tree c.in-Some.at.first.process.now) (cases c.in-Some.at.first.behind.now))
    (and_case (exp c.in-Some.at.first.condition.now) (tree c.in-Some.at.first.process.now) (in_front c.in-Some-divided.second))
    c.in-Some.ensures (ap (and_case (exp c.in-Some.at.first.condition.now) (tree c.in-Some.at.first.process.now)) c.in-Some-divided.ensures)) (c.same_proc.ensures.0 c.if-not-same_proc.false)
    (c.in_ok-finished.ensures ∙ ap select (put_behind (and_case either part) (cases (in_choices c.in_ok-made.made)) (cases (in_choices c.add.new.made))
    (cases c.in-Some.at.before.now) (cases c.in-Some-divided.second.behind.now) c.in_ok-made.ensures put))
