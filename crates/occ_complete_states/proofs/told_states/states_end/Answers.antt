use Rattle.occ_complete_states.proofs.Ending.{state_ends}
use Rattle.occ_complete_states.proofs.told_states.states_end.Goals as goal

pub returns : goal.returns
returns c = state_ends
