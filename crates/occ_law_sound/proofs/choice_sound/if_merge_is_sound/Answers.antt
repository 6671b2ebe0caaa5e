use Rattle.occ_law_sound.proofs.choice_sound.if_merge_is_sound.Goals as goal
use Rattle.occ_law_sound.proofs.Choices.{merge_sound}

pub returns : goal.returns
returns c = merge_sound
