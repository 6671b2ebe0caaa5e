use Rattle.std.proofs.Common.{◌≡◌, ◌↔◌, length}
use Rattle.occ_syntax.specs.View.{cases}
use Rattle.occ_law_shape.specs.Pieces.{each_choice}
use Rattle.occ_law_shape.proofs.pieces.are_choice_pieces.Given as goal

-- the choices so far fit
abbrev pub invariant-loop-rest : goal.invariant-loop-rest
invariant-loop-rest g l =
    (cases l.other_rest ≡ each_choice (g.P.ChoicePiece.condition l.piece) (g.P.ChoicePiece.process l.piece) (cases l.rest))
    ↔ (cases l.others ≡ each_choice (g.P.ChoicePiece.condition l.piece) (g.P.ChoicePiece.process l.piece) (cases l.choices))

abbrev pub decreases-loop-rest : goal.decreases-loop-rest
decreases-loop-rest g l = length l.rest
