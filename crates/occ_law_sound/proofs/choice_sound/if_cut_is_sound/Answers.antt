use Rattle.occ_law_sound.proofs.choice_sound.if_cut_is_sound.Goals as goal
use Rattle.occ_law_sound.proofs.Choices.{cut_sound}

pub returns : goal.returns
returns c = cut_sound
