use Rattle.occ_behaviour_read.proofs.Standing.{texts_of_programs}
use Rattle.occ_behaviour_read.proofs.tables.texts_of_programs_are_those_of_their_tables.Goals as goal

pub returns : goal.returns
returns c = texts_of_programs
