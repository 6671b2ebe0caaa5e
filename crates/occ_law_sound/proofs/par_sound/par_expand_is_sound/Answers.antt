use Rattle.occ_law_sound.proofs.par_sound.par_expand_is_sound.Goals as goal
use Rattle.occ_law_sound.proofs.Expanding.{expand_sound}

pub returns : goal.returns
returns c = expand_sound
