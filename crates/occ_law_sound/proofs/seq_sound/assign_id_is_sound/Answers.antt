use Rattle.occ_law_sound.proofs.seq_sound.assign_id_is_sound.Goals as goal
use Rattle.occ_law_sound.proofs.Assigning.{id_sound}

pub returns : goal.returns
returns c = id_sound
