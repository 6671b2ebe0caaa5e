use Rattle.std.proofs.Common.{sym, ◌∙◌}
use Rattle.occ_law_right.proofs.Sides.{var_assign_only}
use Rattle.occ_law_right.proofs.pairs.var_assign.Goals as goal

pub returns-in_ok-other_pairs-in-Assign : goal.returns-in_ok-other_pairs-in-Assign
returns-in_ok-other_pairs-in-Assign c = var_assign_only _ _ _ _ _ _ _ c.in-Var.ensures c.in-Assign.ensures (sym c.other_values_name.ensures ∙ c.if-other_values_name.false) c.in_ok-other_pairs-in-Assign.ensures
