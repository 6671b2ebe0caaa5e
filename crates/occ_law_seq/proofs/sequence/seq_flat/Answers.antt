use Rattle.std.proofs.Common.{sym}
use Rattle.occ_syntax.specs.View.{tree, trees}
use Rattle.occ_law_seq.proofs.Here.{through}
use Rattle.occ_law_seq.proofs.Placed.{flat_placed}
use Rattle.occ_law_seq.proofs.sequence.seq_flat.Goals as goal

pub returns-in-Seq-law_case-law_case : goal.returns-in-Seq-law_case-law_case
returns-in-Seq-law_case-law_case c = through c.somewhere.ensures
    (flat_placed (trees c.in-Seq-law_case.parts.now) (trees c.in-Seq-law_case-law_case.others.now) (tree c.args.left.now) (tree c.args.right.now) (sym c.in-Seq-law_case.ensures) (sym c.in-Seq-law_case-law_case.ensures))
