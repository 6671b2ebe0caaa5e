use Rattle.occ_law_sound.proofs.choice_sound.if_false_is_sound.Goals as goal
use Rattle.occ_law_sound.proofs.Choices.{false_sound}

pub returns : goal.returns
returns c = false_sound
