use Rattle.occ_law_sound.proofs.choice_sound.if_under_is_sound.Goals as goal
use Rattle.occ_law_sound.proofs.Choices.{under_sound}

pub returns : goal.returns
returns c = under_sound
