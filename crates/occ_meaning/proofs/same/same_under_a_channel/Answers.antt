use Rattle.occ_meaning.proofs.Contexts.{connect_same}
use Rattle.occ_meaning.proofs.same.same_under_a_channel.Goals as goal

pub returns : goal.returns
returns c = connect_same
