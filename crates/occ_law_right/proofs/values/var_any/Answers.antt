use Rattle.occ_law_right.proofs.Sides.{var_any_only}
use Rattle.occ_law_right.proofs.values.var_any.Goals as goal

pub returns-in_ok-each_value-in-Var : goal.returns-in_ok-each_value-in-Var
returns-in_ok-each_value-in-Var c = var_any_only _ _ _ _ _ c.in-Var.ensures c.in_ok-each_value-in-Var.ensures
