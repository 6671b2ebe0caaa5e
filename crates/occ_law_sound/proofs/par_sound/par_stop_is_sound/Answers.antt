use Rattle.occ_law_sound.proofs.par_sound.par_stop_is_sound.Goals as goal
use Rattle.occ_law_sound.proofs.Parts.{stop_sound}

pub returns : goal.returns
returns c = stop_sound
