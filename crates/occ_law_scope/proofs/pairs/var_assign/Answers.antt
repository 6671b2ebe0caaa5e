use Rattle.std.proofs.Common.{sym, ◌∙◌}
use Rattle.occ_syntax.specs.View.{exps, numbers, tree}
use Rattle.occ_law_scope.proofs.Dropped.{var_assign_law}
use Rattle.occ_law_scope.proofs.Joined.{through}
use Rattle.occ_law_scope.proofs.pairs.var_assign.Goals as goal

pub returns-else-other_values_name : goal.returns-else-other_values_name
returns-else-other_values_name c = through c.is_assigned_without.ensures
    (var_assign_law (tree c.args.left.now) (tree c.args.right.now) (tree c.in-Var-shape.body.now) c.in-Var-shape.name.0 c.in-Var-shape._width
    (numbers c.in-Assign-shape.vars.now) (exps c.in-Assign-shape.values.now) c.in-Var-shape.ensures c.in-Assign-shape.ensures
    (sym c.other_values_name.ensures ∙ c.if-other_values_name.false))
