use Rattle.occ_complete.proofs.Settling.{configuration_settles}
use Rattle.occ_complete.proofs.settled.configurations_settle.Goals as goal

pub returns : goal.returns
returns c = configuration_settles
