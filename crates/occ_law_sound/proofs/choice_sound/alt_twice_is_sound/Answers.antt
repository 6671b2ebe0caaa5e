use Rattle.occ_law_sound.proofs.choice_sound.alt_twice_is_sound.Goals as goal
use Rattle.occ_law_sound.proofs.Alternatives.{twice_sound}

pub returns : goal.returns
returns c = twice_sound
