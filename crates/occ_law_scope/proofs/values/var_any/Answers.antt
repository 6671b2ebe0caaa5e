use Rattle.occ_syntax.specs.View.{branches, tree}
use Rattle.occ_law_scope.proofs.Joined.{through}
use Rattle.occ_law_scope.proofs.EachValue.{var_any_law}
use Rattle.occ_law_scope.proofs.values.var_any.Goals as goal

pub returns-in-Alt-law_case : goal.returns-in-Alt-law_case
returns-in-Alt-law_case c = through c.has_each_value.ensures
    (var_any_law (tree c.args.left.now) (tree c.args.right.now) (tree c.in-Var-law_case.body.now) c.in-Var-law_case.name.0 c.in-Var-law_case.width (branches c.in-Alt-law_case.alternatives.now)
    c.in-Var-law_case.ensures c.in-Alt-law_case.ensures)
