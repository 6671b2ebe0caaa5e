use Rattle.std.proofs.Common.{sym, ◌∙◌}
use Rattle.occ_syntax.specs.View.{branches, tree}
use Rattle.occ_law_scope.proofs.Branching.{var_alt_law}
use Rattle.occ_law_scope.proofs.Joined.{answered}
use Rattle.occ_law_scope.proofs.choices.var_alt_under.Goals as goal

pub returns-else-some_guard_names : goal.returns-else-some_guard_names
returns-else-some_guard_names c = answered c.into_branches.result c.into_branches.ensures
    (var_alt_law (tree c.args.left.now) (tree c.args.right.now) (tree c.in-Var-shape.body.now) c.in-Var-shape.name c.in-Var-shape.width (branches c.in-Alt-shape.alternatives.now)
    c.in-Var-shape.ensures c.in-Alt-shape.ensures (sym c.some_guard_names.ensures ∙ c.if-some_guard_names.false))
