use Rattle.occ_syntax.specs.View.{tree}
use Rattle.occ_syntax.proofs.Rows.{refuted}
use Rattle.occ_law_scope.proofs.Sides.{var_swap_law, var_swap_never}
use Rattle.occ_law_scope.proofs.Joined.{through}
use Rattle.occ_law_scope.proofs.moves.var_swap.Goals as goal

pub returns-in-Some : goal.returns-in-Some
returns-in-Some c = through c.are_swapped.ensures
    (var_swap_law (tree c.args.left.now) (tree c.args.right.now) (tree c.in-Var-shape.body.now) (tree c.in-Some.inner.now) c.in-Var-shape.name.0 c.in-Var-shape.width c.in-Some.second
    c.in-Var-shape.ensures c.in-Some.ensures)

pub returns-in-None : goal.returns-in-None
returns-in-None c = refuted
    (var_swap_never (tree c.args.left.now) (tree c.args.right.now) (tree c.in-Var-shape.body.now) c.in-Var-shape.name.0 c.in-Var-shape.width c.in-Var-shape.ensures c.in-None.ensures)
