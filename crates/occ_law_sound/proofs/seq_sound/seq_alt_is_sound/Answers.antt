use Rattle.occ_law_sound.proofs.seq_sound.seq_alt_is_sound.Goals as goal
use Rattle.occ_law_sound.proofs.GoingOn.{alt_sound}

pub returns : goal.returns
returns c = alt_sound
