use Rattle.occ_law_sound.proofs.choice_sound.if_copy_is_sound.Goals as goal
use Rattle.occ_law_sound.proofs.Choices.{copy_sound}

pub returns : goal.returns
returns c = copy_sound
