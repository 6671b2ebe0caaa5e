use Rattle.occ_law_sound.proofs.choice_sound.if_true_is_sound.Goals as goal
use Rattle.occ_law_sound.proofs.Choices.{true_sound}

pub returns : goal.returns
returns c = true_sound
