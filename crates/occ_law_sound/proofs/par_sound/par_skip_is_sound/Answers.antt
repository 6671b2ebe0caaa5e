use Rattle.occ_law_sound.proofs.par_sound.par_skip_is_sound.Goals as goal
use Rattle.occ_law_sound.proofs.Parts.{skip_sound}

pub returns : goal.returns
returns c = skip_sound
