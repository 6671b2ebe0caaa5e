use Rattle.occ_law_sound.proofs.par_sound.par_flat_is_sound.Goals as goal
use Rattle.occ_law_sound.proofs.Parts.{flat_sound}

pub returns : goal.returns
returns c = flat_sound
