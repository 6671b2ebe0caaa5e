use Rattle.occ_law_sound.proofs.choice_sound.alt_order_is_sound.Goals as goal
use Rattle.occ_law_sound.proofs.Alternatives.{order_sound}

pub returns : goal.returns
returns c = order_sound
