use Rattle.occ_derive_moves.proofs.Keeping.{works_move}
use Rattle.occ_derive_moves.proofs.moving.rows_make_moves.Goals as goal

pub returns : goal.returns
returns c = works_move
