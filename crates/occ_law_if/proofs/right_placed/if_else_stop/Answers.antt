use Rattle.std.proofs.Common.{ap, ◌∙◌}
use Rattle.occ_syntax.specs.Tree.{select}
use Rattle.occ_syntax.specs.View.{cases, tree}
use Rattle.occ_law_shape.specs.occ_law.Instances.{sizes}
use Rattle.occ_law_if.specs.Chosen.{in_front}
use Rattle.occ_law_if.proofs.Rights.{else_is, else_never}
use Rattle.occ_law_if.proofs.right_placed.if_else_stop.Goals as goal

pub returns-then-not-is_else_stop : goal.returns-then-not-is_else_stop
returns-then-not-is_else_stop c =
    else_never (sizes c.args.place) (tree c.args.left.now) (cases c.in-Some.at.before.now) (in_front c.in-Some.at.first) c.in-Some.ensures (λ e. cc (c.is_else_stop.ensures.1 e))

pub returns : goal.returns
returns c =
    else_is (sizes c.args.place) (tree c.args.left.now) (cases c.in-Some.at.before.now) (in_front c.in-Some.at.first) (tree c.if_of.result) c.in-Some.ensures
    (c.is_else_stop.ensures.0 c.if-not-is_else_stop.false) (c.if_of.ensures ∙ ap select c.in_ok-made.ensures)
