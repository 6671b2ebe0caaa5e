use Rattle.std.proofs.Common.{ap, ◌∙◌}
use Rattle.occ_syntax.specs.declared.proc.Proc.{Stop}
use Rattle.occ_syntax.specs.Tree.{select, stop, and_case}
use Rattle.occ_syntax.specs.View.{cases, exp, in_choices, tree}
use Rattle.occ_law_shape.specs.occ_law.Instances.{sizes}
use Rattle.occ_law_shape.specs.occ_law.Choice.{each_case_under}
use Rattle.occ_law_shape.specs.occ_law.Lists.{all_cases}
use Rattle.occ_law_if.proofs.Putting.{put_as, put_behind, stop_is}
use Rattle.occ_law_if.proofs.Rights.{nest_is, nest_never}
use Rattle.occ_law_if.proofs.right_placed.if_nest.Goals as goal

pub returns-in_default-choices_of : goal.returns-in_default-choices_of
returns-in_default-choices_of c =
    nest_never (sizes c.args.place) (tree c.args.left.now) (cases c.in-Some.at.before.now) (cases c.in-Some.at.first.behind.now) (exp c.in-Some.at.first.condition.now) (tree c.in-Some.at.first.process.now) c.in-Some.ensures
    c.in_default-choices_of.ensures

pub returns : goal.returns
returns c =
    let b = exp c.in-Some.at.first.condition.now in
    let ds = cases c.in-Some.at.first.behind.now in
    let es = cases c.in-Some-choices_of.inner.now in
    let last = put_as (cases (in_choices c.add_under.new.made)) (cases (in_choices c.add.new.made)) (exp c.in_ok-copy.field-0) b (tree Stop) stop c.in_ok-copy.ensures stop_is
    c.in_ok-add.ensures in
    nest_is (sizes c.args.place) (tree c.args.left.now) (cases c.in-Some.at.before.now) es ds b (tree c.in-Some.at.first.process.now)
    (tree c.in_ok-finished.field-0) c.in-Some.ensures c.in-Some-choices_of.ensures
    (c.in_ok-finished.ensures ∙ ap select (last ds ∙ put_behind (all_cases (each_case_under b es)) (cases (in_choices c.in_ok-made.made)) (cases (in_choices c.add_under.new.made))
    (cases c.in-Some.at.before.now) (and_case b stop ds) c.in_ok-made.ensures c.in_ok-add_under.ensures))
