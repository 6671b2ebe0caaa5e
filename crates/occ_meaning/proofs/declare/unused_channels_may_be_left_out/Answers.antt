use Rattle.occ_meaning.proofs.Declared.{channel_unused}
use Rattle.occ_meaning.proofs.declare.unused_channels_may_be_left_out.Goals as goal

pub returns : goal.returns
returns c = channel_unused
