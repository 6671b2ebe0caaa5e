use Rattle.occ_law_sound.proofs.par_sound.par_order_is_sound.Goals as goal
use Rattle.occ_law_sound.proofs.Parts.{order_sound}

pub returns : goal.returns
returns c = order_sound
