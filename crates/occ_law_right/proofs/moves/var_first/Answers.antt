use Rattle.occ_law_right.proofs.Sides.{var_first_only}
use Rattle.occ_law_right.proofs.moves.var_first.Goals as goal

pub returns-in-Some : goal.returns-in-Some
returns-in-Some c = var_first_only _ _ _ _ _ _ _ _ c.in-Var.ensures c.in-Seq.ensures c.in-Some.ensures c.into_second.ensures
