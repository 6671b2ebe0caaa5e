use Rattle.occ_complete.proofs.Settling.{superposition_settles}
use Rattle.occ_complete.proofs.settled.superpositions_settle.Goals as goal

pub returns : goal.returns
returns c = superposition_settles
