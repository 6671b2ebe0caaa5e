use Rattle.occ_meaning.proofs.Redeclared.{channel_renamed}
use Rattle.occ_meaning.proofs.rename.channels_may_be_renamed.Goals as goal

pub returns : goal.returns
returns c = channel_renamed
