use Rattle.occ_behaviour_read.proofs.Tabling.{faults_as_written}
use Rattle.occ_behaviour_read.proofs.tables.faults_are_those_of_what_is_written.Goals as goal

pub returns : goal.returns
returns c = faults_as_written
