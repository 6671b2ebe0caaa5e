use Rattle.occ_law_sound.proofs.par_sound.par_none_is_sound.Goals as goal
use Rattle.occ_law_sound.proofs.Parts.{none_sound}

pub returns : goal.returns
returns c = none_sound
