use Rattle.occ_law_sound.proofs.choice_sound.alt_least_is_sound.Goals as goal
use Rattle.occ_law_sound.proofs.Alternatives.{least_sound}

pub returns : goal.returns
returns c = least_sound
