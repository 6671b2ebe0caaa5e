use Rattle.occ_law_sound.proofs.seq_sound.seq_flat_is_sound.Goals as goal
use Rattle.occ_law_sound.proofs.InTurn.{flat_sound}

pub returns : goal.returns
returns c = flat_sound
