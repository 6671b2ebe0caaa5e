use Rattle.occ_derive_moves.proofs.Lifting.{spares_work}
use Rattle.occ_derive_moves.proofs.moving.sparing_rows_are_rows.Goals as goal

pub returns : goal.returns
returns c = spares_work
