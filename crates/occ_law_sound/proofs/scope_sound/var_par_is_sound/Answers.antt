use Rattle.occ_law_sound.proofs.scope_sound.var_par_is_sound.Goals as goal
use Rattle.occ_law_sound.proofs.Declared.{var_par_sound}

pub returns : goal.returns
returns c = var_par_sound
