use Rattle.occ_law_sound.proofs.scope_sound.var_if_is_sound.Goals as goal
use Rattle.occ_law_sound.proofs.IntoChoices.{var_if_sound}

pub returns : goal.returns
returns c = var_if_sound
