use Rattle.std.proofs.Common.{ap, ◌∙◌}
use Rattle.occ_syntax.specs.Tree.{alt}
use Rattle.occ_syntax.specs.View.{branches, tree, trees}
use Rattle.occ_law_seq.specs.occ_law.Instances.{sizes}
use Rattle.occ_law_right.proofs.Rights.{waiting_is}
use Rattle.occ_law_right.proofs.followed.seq_alt.Goals as goal

pub returns : goal.returns
returns c =
    waiting_is (sizes c.args.place) (tree c.args.left.now) (tree c.alt_of.result) (trees c.in-Some.parts.now) (tree c.in-Some-divided.first.now) (trees c.in-Some-divided.behind.now)
    (branches c.in-Some-branches_of.alternatives.now) (c.is_whole.ensures.0 c.if-not-is_whole.false) c.in-Some.ensures c.in-Some-divided.ensures c.in-Some-branches_of.ensures (c.alt_of.ensures ∙ ap alt c.in_ok-made.ensures)
