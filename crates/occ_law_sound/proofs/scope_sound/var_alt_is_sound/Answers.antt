use Rattle.occ_law_sound.proofs.scope_sound.var_alt_is_sound.Goals as goal
use Rattle.occ_law_sound.proofs.IntoBranches.{var_alt_sound}

pub returns : goal.returns
returns c = var_alt_sound
