use Rattle.occ_law_sound.proofs.scope_sound.var_rename_is_sound.Goals as goal
use Rattle.occ_law_sound.proofs.Declared.{var_rename_sound}

pub returns : goal.returns
returns c = var_rename_sound
