use Rattle.occ_derive_moves.proofs.Lifting.{spares_under}
use Rattle.occ_derive_moves.proofs.moving.sparing_parts_lift.Goals as goal

pub returns : goal.returns
returns c = spares_under
