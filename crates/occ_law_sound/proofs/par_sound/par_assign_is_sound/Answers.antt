use Rattle.occ_law_sound.proofs.par_sound.par_assign_is_sound.Goals as goal
use Rattle.occ_law_sound.proofs.Parts.{assign_sound}

pub returns : goal.returns
returns c = assign_sound
