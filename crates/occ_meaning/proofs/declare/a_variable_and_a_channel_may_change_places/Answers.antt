use Rattle.occ_meaning.proofs.Declared.{variable_and_channel_swapped}
use Rattle.occ_meaning.proofs.declare.a_variable_and_a_channel_may_change_places.Goals as goal

pub returns : goal.returns
returns c = variable_and_channel_swapped
