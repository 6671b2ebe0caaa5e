use Rattle.occ_law_sound.proofs.scope_sound.chan_unused_is_sound.Goals as goal
use Rattle.occ_law_sound.proofs.Declared.{chan_unused_sound}

pub returns : goal.returns
returns c = chan_unused_sound
