use Rattle.occ_complete_states.proofs.Opening.{alternatives_open}
use Rattle.occ_complete_states.proofs.guards.alternatives_are_opened.Goals as goal

pub returns : goal.returns
returns c = alternatives_open
