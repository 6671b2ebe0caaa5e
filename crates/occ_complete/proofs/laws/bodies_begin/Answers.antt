use Rattle.occ_complete.proofs.Unfilled.{body_begins}
use Rattle.occ_complete.proofs.laws.bodies_begin.Goals as goal

pub returns : goal.returns
returns c = body_begins
