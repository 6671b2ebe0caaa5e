use Rattle.occ_law_sound.proofs.ParSound.{parallel_sound}
use Rattle.occ_law_sound.proofs.par_sound.parallel_laws_are_sound.Goals as goal

pub returns : goal.returns
returns c = parallel_sound
