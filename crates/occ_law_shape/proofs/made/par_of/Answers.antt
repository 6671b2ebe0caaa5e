use Rattle.occ_syntax.proofs.Views.{tree-Par}
use Rattle.occ_law_shape.proofs.made.par_of.Goals as goal

pub returns : goal.returns
returns c = tree-Par c.args.parts
