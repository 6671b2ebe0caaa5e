use Rattle.occ_syntax.specs.View.{tree, trees}
use Rattle.occ_law_scope.proofs.Sides.{chan_par_law}
use Rattle.occ_law_scope.proofs.Joined.{answered}
use Rattle.occ_law_scope.proofs.moves.chan_par.Goals as goal

pub returns-in-Par-shape-shape : goal.returns-in-Par-shape-shape
returns-in-Par-shape-shape c = answered c.is_in_first.result c.is_in_first.ensures
    (chan_par_law (tree c.args.left.now) (tree c.args.right.now) (tree c.in-Chan-shape.body.now) c.in-Chan-shape.name c.in-Chan-shape.width (trees c.in-Par-shape.parts.now)
    (trees c.in-Par-shape-shape.others.now) c.in-Chan-shape.ensures c.in-Par-shape.ensures c.in-Par-shape-shape.ensures)
