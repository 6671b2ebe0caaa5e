use Rattle.occ_law_sound.proofs.scope_sound.chan_alt_is_sound.Goals as goal
use Rattle.occ_law_sound.proofs.ChannelBranches.{chan_alt_sound}

pub returns : goal.returns
returns c = chan_alt_sound
