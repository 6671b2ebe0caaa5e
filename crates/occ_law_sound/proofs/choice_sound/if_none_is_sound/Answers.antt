use Rattle.occ_law_sound.proofs.choice_sound.if_none_is_sound.Goals as goal
use Rattle.occ_law_sound.proofs.Choices.{none_sound}

pub returns : goal.returns
returns c = none_sound
