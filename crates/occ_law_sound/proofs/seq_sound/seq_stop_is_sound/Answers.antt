use Rattle.occ_law_sound.proofs.seq_sound.seq_stop_is_sound.Goals as goal
use Rattle.occ_law_sound.proofs.InTurn.{stop_sound}

pub returns : goal.returns
returns c = stop_sound
