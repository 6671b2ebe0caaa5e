use Rattle.occ_law_sound.proofs.scope_sound.var_alt_input_is_sound.Goals as goal
use Rattle.occ_law_sound.proofs.OtherInput.{var_alt_input_sound}

pub returns : goal.returns
returns c = var_alt_input_sound
