use Rattle.occ_law_sound.proofs.choice_sound.alt_false_is_sound.Goals as goal
use Rattle.occ_law_sound.proofs.Alternatives.{false_sound}

pub returns : goal.returns
returns c = false_sound
