use Rattle.occ_syntax.specs.View.{tree, trees}
use Rattle.occ_law_seq.specs.occ_law.Instances.{sizes}
use Rattle.occ_law_right.proofs.Rights.{one_is}
use Rattle.occ_law_right.proofs.sequence.seq_one.Goals as goal

pub returns : goal.returns
returns c =
    one_is (sizes c.args.place) (tree c.args.left.now) (tree c.in_ok-copy.field-0) (trees c.in-Some.parts.now) (tree c.in-Some-only.part.now) (c.is_whole.ensures.0 c.if-not-is_whole.false) c.in-Some.ensures c.in-Some-only.ensures c.in_ok-copy.ensures
