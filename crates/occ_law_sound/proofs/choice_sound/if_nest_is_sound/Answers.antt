use Rattle.occ_law_sound.proofs.choice_sound.if_nest_is_sound.Goals as goal
use Rattle.occ_law_sound.proofs.Choices.{nest_sound}

pub returns : goal.returns
returns c = nest_sound
