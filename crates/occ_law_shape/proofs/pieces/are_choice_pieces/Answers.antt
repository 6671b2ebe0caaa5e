use Rattle.std.proofs.Common.{◌<◌, length, arith}
use Rattle.occ_syntax.proofs.Rows.{refuted}
use Rattle.occ_law_shape.proofs.Fronts.{cases_end, cases_front, cases_whole, choice_differs, choice_ends, choice_step, test_of}
use Rattle.occ_law_shape.proofs.pieces.are_choice_pieces.Goals as goal

pub returns-in_default-other_rest : goal.returns-in_default-other_rest
returns-in_default-other_rest g c =
    let some : 0 < length c.loop-rest.rest.now = omega arith in
    let none : length c.loop-rest.other_rest.now < 1 = omega arith in
    refuted (choice_ends (g.P.ChoicePiece.condition c.args.piece.now) (g.P.ChoicePiece.process c.args.piece.now) _ _ _ _ _ (cases_front c.loop-rest.rest.now c.choice-item.result some c.choice-item.is)
    (cases_end c.loop-rest.other_rest.now none) c.loop-rest.invariant)

pub returns-then-not-is_piece : goal.returns-then-not-is_piece
returns-then-not-is_piece g c =
    let some : 0 < length c.loop-rest.rest.now = omega arith in
    let other : 0 < length c.loop-rest.other_rest.now = omega arith in
    refuted (choice_differs (g.P.ChoicePiece.condition c.args.piece.now) (g.P.ChoicePiece.process c.args.piece.now) _ _ _ _ _ _ _ _ (cases_front c.loop-rest.rest.now c.choice-item.result some c.choice-item.is)
    (cases_front c.loop-rest.other_rest.now c.other-item.result other c.other-item.is) (λ e. cc (c.in_ok-is_piece.ensures.1 e)) c.loop-rest.invariant)

pub loop-rest-preserved : goal.loop-rest-preserved
loop-rest-preserved g c =
    let some : 0 < length c.loop-rest.rest.now = omega arith in
    let other : 0 < length c.loop-rest.other_rest.now = omega arith in
    let fits = c.in_ok-is_piece.ensures.0 c.if-not-is_piece.false in
    choice_step (g.P.ChoicePiece.condition c.args.piece.now) (g.P.ChoicePiece.process c.args.piece.now) _ _ _ _ _ _ _ _ (cases_front c.loop-rest.rest.now c.choice-item.result some c.choice-item.is)
    (cases_front c.loop-rest.other_rest.now c.other-item.result other c.other-item.is) fits.0 fits.1 c.loop-rest.invariant

pub returns : goal.returns
returns g c =
    let none : length c.loop-rest.rest.now < 1 = omega arith in
    cases_whole (g.P.ChoicePiece.condition c.args.piece.now) (g.P.ChoicePiece.process c.args.piece.now) _ c.loop-rest.other_rest.now _ (cases_end c.loop-rest.rest.now none) c.loop-rest.invariant (test_of _ _ c.is_empty.ensures)
