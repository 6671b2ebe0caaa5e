use Rattle.occ_law_sound.proofs.seq_sound.expr_is_sound.Goals as goal
use Rattle.occ_law_sound.proofs.EqualPlaces.{expr_sound}

pub returns : goal.returns
returns c = expr_sound
