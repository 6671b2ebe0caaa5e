use Rattle.occ_law_sound.proofs.scope_sound.var_end_is_sound.Goals as goal
use Rattle.occ_law_sound.proofs.DroppedPairs.{var_end_sound}

pub returns : goal.returns
returns c = var_end_sound
