use Rattle.occ_law_sound.proofs.scope_sound.var_first_is_sound.Goals as goal
use Rattle.occ_law_sound.proofs.Declared.{var_first_sound}

pub returns : goal.returns
returns c = var_first_sound
