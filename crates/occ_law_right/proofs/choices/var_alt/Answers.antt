use Rattle.std.proofs.Common.{sym, ◌∙◌}
use Rattle.occ_law_right.proofs.Sides.{var_alt_only}
use Rattle.occ_law_right.proofs.choices.var_alt.Goals as goal

pub returns-in_ok-into_branches-in-Alt : goal.returns-in_ok-into_branches-in-Alt
returns-in_ok-into_branches-in-Alt c = var_alt_only _ _ _ _ _ _ c.in-Var.ensures c.in-Alt.ensures (sym c.some_guard_names.ensures ∙ c.if-some_guard_names.false) c.in_ok-into_branches-in-Alt.ensures
