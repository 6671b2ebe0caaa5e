use Rattle.occ_weave.proofs.States.{joins_states}
use Rattle.occ_weave.proofs.law.joined_ends_are_joined_states.Goals as goal

pub returns : goal.returns
returns c = joins_states
