use Rattle.occ_bits.proofs.States.{are_states}
use Rattle.occ_bits.proofs.law.assignments_are_states.Goals as goal

pub returns : goal.returns
returns c = are_states
