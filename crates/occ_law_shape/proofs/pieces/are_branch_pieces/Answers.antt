use Rattle.std.proofs.Common.{◌<◌, length, arith}
use Rattle.occ_syntax.proofs.Rows.{refuted}
use Rattle.occ_law_shape.proofs.Fronts.{branch_differs, branch_ends, branch_step, branches_end, branches_front, branches_whole, test_of}
use Rattle.occ_law_shape.proofs.pieces.are_branch_pieces.Goals as goal

pub returns-in_default-other_rest : goal.returns-in_default-other_rest
returns-in_default-other_rest g c =
    let some : 0 < length c.loop-rest.rest.now = omega arith in
    let none : length c.loop-rest.other_rest.now < 1 = omega arith in
    refuted (branch_ends (g.P.BranchPiece.condition c.args.piece.now) (g.P.BranchPiece.wait c.args.piece.now) (g.P.BranchPiece.process c.args.piece.now) _ _ _ _ _ _
    (branches_front c.loop-rest.rest.now c.branch-item.result some c.branch-item.is) (branches_end c.loop-rest.other_rest.now none) c.loop-rest.invariant)

pub returns-then-not-is_piece : goal.returns-then-not-is_piece
returns-then-not-is_piece g c =
    let some : 0 < length c.loop-rest.rest.now = omega arith in
    let other : 0 < length c.loop-rest.other_rest.now = omega arith in
    refuted (branch_differs (g.P.BranchPiece.condition c.args.piece.now) (g.P.BranchPiece.wait c.args.piece.now) (g.P.BranchPiece.process c.args.piece.now) _ _ _ _ _ _ _ _ _ _
    (branches_front c.loop-rest.rest.now c.branch-item.result some c.branch-item.is) (branches_front c.loop-rest.other_rest.now c.other-item.result other c.other-item.is)
    (λ e. cc (c.in_ok-is_piece.ensures.1 e)) c.loop-rest.invariant)

pub loop-rest-preserved : goal.loop-rest-preserved
loop-rest-preserved g c =
    let some : 0 < length c.loop-rest.rest.now = omega arith in
    let other : 0 < length c.loop-rest.other_rest.now = omega arith in
    let fits = c.in_ok-is_piece.ensures.0 c.if-not-is_piece.false in
    branch_step (g.P.BranchPiece.condition c.args.piece.now) (g.P.BranchPiece.wait c.args.piece.now) (g.P.BranchPiece.process c.args.piece.now) _ _ _ _ _ _ _ _ _ _
    (branches_front c.loop-rest.rest.now c.branch-item.result some c.branch-item.is) (branches_front c.loop-rest.other_rest.now c.other-item.result other c.other-item.is)
    fits.0 fits.1 fits.2 c.loop-rest.invariant

pub returns : goal.returns
returns g c =
    let none : length c.loop-rest.rest.now < 1 = omega arith in
    branches_whole (g.P.BranchPiece.condition c.args.piece.now) (g.P.BranchPiece.wait c.args.piece.now) (g.P.BranchPiece.process c.args.piece.now) _ c.loop-rest.other_rest.now _
    (branches_end c.loop-rest.rest.now none) c.loop-rest.invariant (test_of _ _ c.is_empty.ensures)
