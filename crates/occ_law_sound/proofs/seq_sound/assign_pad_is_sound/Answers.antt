use Rattle.occ_law_sound.proofs.seq_sound.assign_pad_is_sound.Goals as goal
use Rattle.occ_law_sound.proofs.Assigning.{pad_sound}

pub returns : goal.returns
returns c = pad_sound
