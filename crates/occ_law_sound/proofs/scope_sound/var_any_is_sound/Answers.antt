use Rattle.occ_law_sound.proofs.scope_sound.var_any_is_sound.Goals as goal
use Rattle.occ_law_sound.proofs.EachValue.{var_any_sound}

pub returns : goal.returns
returns c = var_any_sound
