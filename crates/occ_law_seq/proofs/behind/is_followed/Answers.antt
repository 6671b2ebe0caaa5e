use Rattle.occ_syntax.specs.Tree.{and_tree}
use Rattle.occ_syntax.specs.View.{tree, trees}
use Rattle.occ_law_seq.proofs.Followers.{seq_is}
use Rattle.occ_law_seq.proofs.behind.is_followed.Goals as goal

pub returns-in-Seq : goal.returns-in-Seq
returns-in-Seq c = seq_is (tree c.args.whole.now) (trees c.in-Seq.parts.now) (and_tree (tree c.args.part.now) (trees c.args.behind.now)) _ c.in-Seq.ensures c.is_row.ensures
