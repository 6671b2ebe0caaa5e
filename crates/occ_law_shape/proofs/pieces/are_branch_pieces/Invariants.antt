use Rattle.std.proofs.Common.{◌≡◌, ◌↔◌, length}
use Rattle.occ_syntax.specs.View.{branches}
use Rattle.occ_law_shape.specs.Pieces.{each_branch}
use Rattle.occ_law_shape.proofs.pieces.are_branch_pieces.Given as goal

-- the branches so far fit
abbrev pub invariant-loop-rest : goal.invariant-loop-rest
invariant-loop-rest g l =
    (branches l.other_rest ≡ each_branch (g.P.BranchPiece.condition l.piece) (g.P.BranchPiece.wait l.piece) (g.P.BranchPiece.process l.piece) (branches l.rest))
    ↔ (branches l.others ≡ each_branch (g.P.BranchPiece.condition l.piece) (g.P.BranchPiece.wait l.piece) (g.P.BranchPiece.process l.piece) (branches l.alternatives))

abbrev pub decreases-loop-rest : goal.decreases-loop-rest
decreases-loop-rest g l = length l.rest
