use Rattle.occ_law_right.proofs.Sides.{var_swap_only}
use Rattle.occ_law_right.proofs.moves.var_swap.Goals as goal

pub returns-in_ok-swapped-in-Some : goal.returns-in_ok-swapped-in-Some
returns-in_ok-swapped-in-Some c = var_swap_only _ _ _ _ _ _ _ _ c.in-Var.ensures c.in-Some.ensures c.in_ok-swapped-in-Some.ensures
