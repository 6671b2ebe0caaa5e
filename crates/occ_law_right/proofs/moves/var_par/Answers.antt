use Rattle.occ_law_right.proofs.Sides.{var_par_only}
use Rattle.occ_law_right.proofs.moves.var_par.Goals as goal

pub returns-in-Var : goal.returns-in-Var
returns-in-Var c = var_par_only _ _ _ _ _ c.in-Var.ensures c.into_first.ensures
