use Rattle.occ_syntax.specs.View.{tree}
use Rattle.occ_law_scope.proofs.Sides.{var_unused_law}
use Rattle.occ_law_scope.proofs.Joined.{answered}
use Rattle.occ_law_scope.proofs.moves.var_unused.Goals as goal

pub returns-in-Var-shape : goal.returns-in-Var-shape
returns-in-Var-shape c = answered c.goes.result c.goes.ensures
    (var_unused_law (tree c.args.left.now) (tree c.args.right.now) (tree c.in-Var-shape.body.now) c.in-Var-shape.name.0 c.in-Var-shape._width c.in-Var-shape.ensures)
