use Rattle.std.proofs.Common.{sym}
use Rattle.occ_syntax.specs.View.{tree}
use Rattle.occ_law_shape.proofs.Fronts.{test_of}
use Rattle.occ_law_seq.proofs.Simple.{none_law}
use Rattle.occ_law_seq.proofs.sequence.seq_none.Goals as goal

pub returns-in-Skip-law_case : goal.returns-in-Skip-law_case
returns-in-Skip-law_case c = none_law c.in-Seq-law_case.parts.now (tree c.args.left.now) (tree c.args.right.now) _ (sym c.in-Seq-law_case.ensures) (sym c.in-Skip-law_case.ensures) (test_of _ _ c.is_empty.ensures)
