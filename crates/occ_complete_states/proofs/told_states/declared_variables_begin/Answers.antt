use Rattle.occ_complete_states.proofs.Beginning.{declared_begins}
use Rattle.occ_complete_states.proofs.told_states.declared_variables_begin.Goals as goal

pub returns : goal.returns
returns c = declared_begins
