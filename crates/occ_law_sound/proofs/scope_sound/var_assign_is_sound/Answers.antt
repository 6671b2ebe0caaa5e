use Rattle.occ_law_sound.proofs.scope_sound.var_assign_is_sound.Goals as goal
use Rattle.occ_law_sound.proofs.DroppedPairs.{var_assign_sound}

pub returns : goal.returns
returns c = var_assign_sound
