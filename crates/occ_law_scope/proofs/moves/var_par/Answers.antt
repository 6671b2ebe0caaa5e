use Rattle.occ_syntax.specs.View.{tree, trees}
use Rattle.occ_law_scope.proofs.Sides.{var_par_law}
use Rattle.occ_law_scope.proofs.Joined.{answered}
use Rattle.occ_law_scope.proofs.moves.var_par.Goals as goal

pub returns-in-Par-shape-shape : goal.returns-in-Par-shape-shape
returns-in-Par-shape-shape c = answered c.is_in_first.result c.is_in_first.ensures
    (var_par_law (tree c.args.left.now) (tree c.args.right.now) (tree c.in-Var-shape.body.now) c.in-Var-shape.name c.in-Var-shape.width (trees c.in-Par-shape.parts.now)
    (trees c.in-Par-shape-shape.others.now) c.in-Var-shape.ensures c.in-Par-shape.ensures c.in-Par-shape-shape.ensures)
