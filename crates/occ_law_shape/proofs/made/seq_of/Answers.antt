use Rattle.occ_syntax.proofs.Views.{tree-Seq}
use Rattle.occ_law_shape.proofs.made.seq_of.Goals as goal

pub returns : goal.returns
returns c = tree-Seq c.args.parts
