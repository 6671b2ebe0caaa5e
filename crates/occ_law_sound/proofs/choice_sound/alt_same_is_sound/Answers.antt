use Rattle.occ_law_sound.proofs.choice_sound.alt_same_is_sound.Goals as goal
use Rattle.occ_law_sound.proofs.Alternatives.{same_guard_sound}

pub returns : goal.returns
returns c = same_guard_sound
