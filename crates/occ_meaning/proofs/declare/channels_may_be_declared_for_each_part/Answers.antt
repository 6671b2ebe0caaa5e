use Rattle.occ_meaning.proofs.DeclaredInTurn.{channel_for_each}
use Rattle.occ_meaning.proofs.declare.channels_may_be_declared_for_each_part.Goals as goal

pub returns : goal.returns
returns c = channel_for_each
