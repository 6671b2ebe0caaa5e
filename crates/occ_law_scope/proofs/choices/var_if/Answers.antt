use Rattle.std.proofs.Common.{sym, ◌∙◌}
use Rattle.occ_syntax.specs.View.{cases, tree}
use Rattle.occ_law_scope.proofs.Branching.{var_if_law}
use Rattle.occ_law_scope.proofs.Joined.{answered}
use Rattle.occ_law_scope.proofs.choices.var_if.Goals as goal

pub returns-else-some_condition_names : goal.returns-else-some_condition_names
returns-else-some_condition_names c = answered c.into_choices.result c.into_choices.ensures
    (var_if_law (tree c.args.left.now) (tree c.args.right.now) (tree c.in-Var-shape.body.now) c.in-Var-shape.name c.in-Var-shape.width (cases c.in-If-shape.choices.now)
    c.in-Var-shape.ensures c.in-If-shape.ensures (sym c.some_condition_names.ensures ∙ c.if-some_condition_names.false))
