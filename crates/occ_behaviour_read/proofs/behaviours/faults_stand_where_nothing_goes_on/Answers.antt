use Rattle.occ_behaviour_read.proofs.Claiming.{stops_where_written}
use Rattle.occ_behaviour_read.proofs.behaviours.faults_stand_where_nothing_goes_on.Goals as goal

pub returns : goal.returns
returns c = stops_where_written
