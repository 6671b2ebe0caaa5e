use Rattle.occ_law_sound.proofs.choice_sound.alt_split_is_sound.Goals as goal
use Rattle.occ_law_sound.proofs.Alternatives.{split_sound}

pub returns : goal.returns
returns c = split_sound
