use Rattle.occ_law_sound.proofs.seq_sound.assign_alt_is_sound.Goals as goal
use Rattle.occ_law_sound.proofs.AssignedChoice.{alt_sound}

pub returns : goal.returns
returns c = alt_sound
