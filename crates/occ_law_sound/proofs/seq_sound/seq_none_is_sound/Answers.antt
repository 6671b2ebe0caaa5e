use Rattle.occ_law_sound.proofs.seq_sound.seq_none_is_sound.Goals as goal
use Rattle.occ_law_sound.proofs.InTurn.{none_sound}

pub returns : goal.returns
returns c = none_sound
