use Rattle.occ_law_sound.proofs.seq_sound.seq_one_is_sound.Goals as goal
use Rattle.occ_law_sound.proofs.InTurn.{one_sound}

pub returns : goal.returns
returns c = one_sound
