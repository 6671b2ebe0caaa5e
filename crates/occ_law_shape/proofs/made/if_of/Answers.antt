use Rattle.occ_syntax.proofs.Views.{tree-If}
use Rattle.occ_law_shape.proofs.made.if_of.Goals as goal

pub returns : goal.returns
returns c = tree-If c.args.choices
