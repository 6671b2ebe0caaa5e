use Rattle.occ_law_sound.proofs.seq_sound.assign_order_is_sound.Goals as goal
use Rattle.occ_law_sound.proofs.Assigning.{order_sound}

pub returns : goal.returns
returns c = order_sound
