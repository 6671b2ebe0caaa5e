use Rattle.occ_syntax.proofs.Views.{tree-Alt}
use Rattle.occ_law_shape.proofs.made.alt_of.Goals as goal

pub returns : goal.returns
returns c = tree-Alt c.args.alternatives
