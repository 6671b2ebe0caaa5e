use Rattle.occ_law_sound.proofs.choice_sound.alt_skip_is_sound.Goals as goal
use Rattle.occ_law_sound.proofs.Alternatives.{skip_sound}

pub returns : goal.returns
returns c = skip_sound
