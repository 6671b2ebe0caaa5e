use Rattle.occ_meaning.proofs.Declared.{channels_swapped}
use Rattle.occ_meaning.proofs.declare.two_channels_may_change_places.Goals as goal

pub returns : goal.returns
returns c = channels_swapped
