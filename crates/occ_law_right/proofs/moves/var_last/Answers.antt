use Rattle.occ_law_right.proofs.Sides.{var_last_only}
use Rattle.occ_law_right.proofs.moves.var_last.Goals as goal

pub returns-in-Some : goal.returns-in-Some
returns-in-Some c = var_last_only _ _ _ _ _ _ _ _ c.in-Var.ensures c.in-Seq.ensures c.in-Some.ensures c.before_second.ensures
