use Rattle.occ_meaning.proofs.Named.{zeros_state}
use Rattle.occ_meaning.proofs.foundation.every_environment_has_a_state.Goals as goal

pub returns : goal.returns
returns c = zeros_state
