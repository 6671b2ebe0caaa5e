use Rattle.occ_law_sound.proofs.scope_sound.chan_if_is_sound.Goals as goal
use Rattle.occ_law_sound.proofs.IntoChoices.{chan_if_sound}

pub returns : goal.returns
returns c = chan_if_sound
