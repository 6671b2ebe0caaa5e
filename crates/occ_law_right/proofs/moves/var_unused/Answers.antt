use Rattle.occ_law_right.proofs.Sides.{var_unused_only}
use Rattle.occ_law_right.proofs.moves.var_unused.Goals as goal

pub returns-in-Var : goal.returns-in-Var
returns-in-Var c = var_unused_only _ _ _ _ _ c.in-Var.ensures c.bare.ensures
