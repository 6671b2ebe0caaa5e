use Rattle.std.proofs.Common.{ap, ◌∙◌}
use Rattle.occ_syntax.specs.Tree.{select}
use Rattle.occ_syntax.specs.View.{cases, tree, trees}
use Rattle.occ_law_seq.specs.occ_law.Instances.{sizes}
use Rattle.occ_law_right.proofs.Rights.{before_is}
use Rattle.occ_law_right.proofs.followed.seq_if.Goals as goal

pub returns : goal.returns
returns c =
    before_is (sizes c.args.place) (tree c.args.left.now) (tree c.if_of.result) (trees c.in-Some.parts.now) (tree c.in-Some-divided.first.now) (trees c.in-Some-divided.behind.now)
    (cases c.in-Some-choices_of.choices.now) (c.is_whole.ensures.0 c.if-not-is_whole.false) c.in-Some.ensures c.in-Some-divided.ensures c.in-Some-choices_of.ensures (c.if_of.ensures ∙ ap select c.in_ok-made.ensures)
