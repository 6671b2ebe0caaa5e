use Rattle.occ_law_right.proofs.Sides.{var_end_only}
use Rattle.occ_law_right.proofs.pairs.var_end.Goals as goal

pub returns-in_ok-declare-in-Assign : goal.returns-in_ok-declare-in-Assign
returns-in_ok-declare-in-Assign c = var_end_only _ _ _ _ _ _ _ _ _ _ _ _ _ c.in-Var.ensures c.in-Seq.ensures c.in-Some.ensures c.in-Assign.ensures c.in_ok-copy-in-Assign.ensures c.in_ok-end-in-Assign.ensures c.in_ok-whole-in-Assign.ensures c.in_ok-declare-in-Assign.ensures
