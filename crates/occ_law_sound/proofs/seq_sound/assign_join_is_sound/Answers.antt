use Rattle.occ_law_sound.proofs.seq_sound.assign_join_is_sound.Goals as goal
use Rattle.occ_law_sound.proofs.Assigning.{join_sound}

pub returns : goal.returns
returns c = join_sound
