use Rattle.occ_law_sound.proofs.choice_sound.alt_flat_is_sound.Goals as goal
use Rattle.occ_law_sound.proofs.Alternatives.{flat_sound}

pub returns : goal.returns
returns c = flat_sound
