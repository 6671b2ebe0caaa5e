use Rattle.occ_syntax.proofs.Views.{tree-Par}
use Rattle.occ_norm_arrange.proofs.Itself.{copied}
use Rattle.occ_norm_arrange.proofs.split.together.Goals as goal

pub returns : goal.returns
returns c = copied _ _ (tree-Par c.args.parts)
