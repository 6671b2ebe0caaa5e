use Rattle.occ_law_sound.proofs.seq_sound.seq_skip_is_sound.Goals as goal
use Rattle.occ_law_sound.proofs.InTurn.{skip_sound}

pub returns : goal.returns
returns c = skip_sound
