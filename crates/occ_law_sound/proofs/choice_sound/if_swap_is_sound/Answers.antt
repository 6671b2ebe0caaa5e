use Rattle.occ_law_sound.proofs.choice_sound.if_swap_is_sound.Goals as goal
use Rattle.occ_law_sound.proofs.Choices.{swap_sound}

pub returns : goal.returns
returns c = swap_sound
