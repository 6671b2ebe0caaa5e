use Rattle.occ_law_sound.proofs.scope_sound.chan_par_is_sound.Goals as goal
use Rattle.occ_law_sound.proofs.Declared.{chan_par_sound}

pub returns : goal.returns
returns c = chan_par_sound
