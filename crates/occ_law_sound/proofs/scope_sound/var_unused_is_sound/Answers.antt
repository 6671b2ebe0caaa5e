use Rattle.occ_law_sound.proofs.scope_sound.var_unused_is_sound.Goals as goal
use Rattle.occ_law_sound.proofs.Declared.{var_unused_sound}

pub returns : goal.returns
returns c = var_unused_sound
