use Rattle.occ_law_sound.proofs.par_sound.par_one_is_sound.Goals as goal
use Rattle.occ_law_sound.proofs.Parts.{one_sound}

pub returns : goal.returns
returns c = one_sound
