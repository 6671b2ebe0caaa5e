use Rattle.occ_derive_moves.proofs.Lifting.{works_under}
use Rattle.occ_derive_moves.proofs.moving.open_parts_lift.Goals as goal

pub returns : goal.returns
returns c = works_under
