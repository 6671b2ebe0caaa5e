use Rattle.occ_complete.proofs.Whole.{bodies_are_shaped}
use Rattle.occ_complete.proofs.laws.bodies_are_shaped.Goals as goal

pub returns : goal.returns
returns c = bodies_are_shaped
