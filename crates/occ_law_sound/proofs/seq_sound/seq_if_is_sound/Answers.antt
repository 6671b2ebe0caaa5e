use Rattle.occ_law_sound.proofs.seq_sound.seq_if_is_sound.Goals as goal
use Rattle.occ_law_sound.proofs.GoingOn.{if_sound}

pub returns : goal.returns
returns c = if_sound
