use Rattle.occ_syntax.specs.View.{tree}
use Rattle.occ_law_scope.proofs.Sides.{chan_swap_law}
use Rattle.occ_law_scope.proofs.Joined.{through}
use Rattle.occ_law_scope.proofs.moves.chan_swap.Goals as goal

pub returns-in-Chan-shape-shape : goal.returns-in-Chan-shape-shape
returns-in-Chan-shape-shape c = through c.are_swapped.ensures
    (chan_swap_law (tree c.args.left.now) (tree c.args.right.now) (tree c.in-Chan-shape.body.now) (tree c.in-Chan-shape-shape.inner.now)
    c.in-Chan-shape.name.0 c.in-Chan-shape-shape.second.0 c.in-Chan-shape.width c.in-Chan-shape-shape.second_width c.in-Chan-shape.ensures c.in-Chan-shape-shape.ensures)
