use Rattle.occ_syntax.specs.View.{tree}
use Rattle.occ_law_scope.proofs.Sides.{chan_seq_law}
use Rattle.occ_law_scope.proofs.Joined.{through}
use Rattle.occ_law_scope.proofs.moves.chan_seq.Goals as goal

pub returns-in-Some : goal.returns-in-Some
returns-in-Some c = through c.governs_each.ensures
    (chan_seq_law (tree c.args.left.now) (tree c.args.right.now) (tree c.in-Chan-shape.body.now) (tree c.in-Some.first.now) (tree c.in-Some.second.now)
    c.in-Chan-shape.name.0 c.in-Chan-shape.width c.in-Chan-shape.ensures c.in-Some.ensures)
