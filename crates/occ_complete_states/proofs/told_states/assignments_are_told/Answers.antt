use Rattle.occ_complete_states.proofs.Telling.{assignment_is_told}
use Rattle.occ_complete_states.proofs.told_states.assignments_are_told.Goals as goal

pub returns : goal.returns
returns c = assignment_is_told
