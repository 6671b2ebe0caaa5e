use Rattle.occ_syntax.specs.View.{tree}
use Rattle.occ_law_scope.proofs.Sides.{chan_unused_law}
use Rattle.occ_law_scope.proofs.Joined.{answered}
use Rattle.occ_law_scope.proofs.moves.chan_unused.Goals as goal

pub returns-in-Chan-shape : goal.returns-in-Chan-shape
returns-in-Chan-shape c = answered c.goes.result c.goes.ensures
    (chan_unused_law (tree c.args.left.now) (tree c.args.right.now) (tree c.in-Chan-shape.body.now) c.in-Chan-shape.name.0 c.in-Chan-shape._width c.in-Chan-shape.ensures)
