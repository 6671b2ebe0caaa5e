use Rattle.occ_law_sound.proofs.seq_sound.assign_if_is_sound.Goals as goal
use Rattle.occ_law_sound.proofs.AssignedChoice.{if_sound}

pub returns : goal.returns
returns c = if_sound
