use Rattle.occ_syntax.specs.View.{branches, tree}
use Rattle.occ_law_scope.proofs.Joined.{through}
use Rattle.occ_law_scope.proofs.OffChannel.{chan_alt_law}
use Rattle.occ_law_scope.proofs.unheard.chan_alt.Goals as goal

pub returns-in-Alt-shape-shape : goal.returns-in-Alt-shape-shape
returns-in-Alt-shape-shape c = through c.are_without_channel.ensures
    (chan_alt_law (tree c.args.left.now) (tree c.args.right.now) (tree c.in-Chan-shape.body.now) c.in-Chan-shape.name.0 c.in-Chan-shape.width
    (branches c.in-Alt-shape.alternatives.now) (branches c.in-Alt-shape-shape.others.now) c.in-Chan-shape.ensures c.in-Alt-shape.ensures c.in-Alt-shape-shape.ensures)
