use Rattle.occ_complete_states.proofs.Given.{given_told}
use Rattle.occ_complete_states.proofs.given_values.given_values_are_told.Goals as goal

pub returns : goal.returns
returns c = given_told
