use Rattle.occ_law_sound.proofs.choice_sound.if_else_stop_is_sound.Goals as goal
use Rattle.occ_law_sound.proofs.Choices.{else_stop_sound}

pub returns : goal.returns
returns c = else_stop_sound
