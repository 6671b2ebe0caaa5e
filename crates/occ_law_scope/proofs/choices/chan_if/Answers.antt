use Rattle.occ_syntax.specs.View.{cases, tree}
use Rattle.occ_law_scope.proofs.Branching.{chan_if_law}
use Rattle.occ_law_scope.proofs.Joined.{answered}
use Rattle.occ_law_scope.proofs.choices.chan_if.Goals as goal

pub returns-in-If-shape : goal.returns-in-If-shape
returns-in-If-shape c = answered c.into_choices.result c.into_choices.ensures
    (chan_if_law (tree c.args.left.now) (tree c.args.right.now) (tree c.in-Chan-shape.body.now) c.in-Chan-shape.name c.in-Chan-shape.width (cases c.in-If-shape.choices.now)
    c.in-Chan-shape.ensures c.in-If-shape.ensures)
