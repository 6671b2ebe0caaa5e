use Rattle.std.proofs.Common.{sym}
use Rattle.occ_syntax.specs.View.{tree, trees}
use Rattle.occ_syntax.proofs.Rows.{refuted}
use Rattle.occ_law_seq.proofs.Simple.{not_one, one_law}
use Rattle.occ_law_seq.proofs.sequence.seq_one.Goals as goal

pub returns-in-Some : goal.returns-in-Some
returns-in-Some c = one_law (trees c.in-Seq-shape.parts.now) (tree c.in-Some.part.now) (tree c.args.left.now) (tree c.args.right.now) _ (sym c.in-Seq-shape.ensures) c.in-Some.ensures c.same_proc.ensures

pub returns-in-None : goal.returns-in-None
returns-in-None c = refuted (not_one (trees c.in-Seq-shape.parts.now) (tree c.args.left.now) (tree c.args.right.now) (sym c.in-Seq-shape.ensures) c.in-None.ensures)
