use Rattle.std.proofs.Common.{sym, ◌∙◌}
use Rattle.occ_law_right.proofs.Sides.{var_if_only}
use Rattle.occ_law_right.proofs.choices.var_if.Goals as goal

pub returns-in_ok-into_choices-in-If : goal.returns-in_ok-into_choices-in-If
returns-in_ok-into_choices-in-If c = var_if_only _ _ _ _ _ _ c.in-Var.ensures c.in-If.ensures (sym c.some_condition_names.ensures ∙ c.if-some_condition_names.false) c.in_ok-into_choices-in-If.ensures
