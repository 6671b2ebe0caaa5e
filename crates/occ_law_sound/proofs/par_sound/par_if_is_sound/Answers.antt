use Rattle.occ_law_sound.proofs.par_sound.par_if_is_sound.Goals as goal
use Rattle.occ_law_sound.proofs.Parts.{if_sound}

pub returns : goal.returns
returns c = if_sound
