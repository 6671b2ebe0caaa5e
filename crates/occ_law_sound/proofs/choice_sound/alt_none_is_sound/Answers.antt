use Rattle.occ_law_sound.proofs.choice_sound.alt_none_is_sound.Goals as goal
use Rattle.occ_law_sound.proofs.Alternatives.{none_sound}

pub returns : goal.returns
returns c = none_sound
