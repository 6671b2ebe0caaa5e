use Rattle.occ_behaviour_read.proofs.Claiming.{read_as_written}
use Rattle.occ_behaviour_read.proofs.behaviours.behaviours_are_read_as_written.Goals as goal

pub returns : goal.returns
returns c = read_as_written
