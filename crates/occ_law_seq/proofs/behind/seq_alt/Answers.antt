use Rattle.occ_syntax.specs.View.{tree, trees}
use Rattle.occ_syntax.proofs.Rows.{refuted}
use Rattle.occ_law_seq.proofs.Followers.{alt_never}
use Rattle.occ_law_seq.proofs.behind.seq_alt.Goals as goal

pub returns-in-None : goal.returns-in-None
returns-in-None c = refuted (alt_never (tree c.args.left.now) (tree c.args.right.now) (trees c.in-Seq-shape.parts.now) c.in-Seq-shape.ensures c.in-None.ensures)
