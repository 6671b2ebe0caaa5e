use Rattle.occ_law_sound.proofs.choice_sound.alt_slide_is_sound.Goals as goal
use Rattle.occ_law_sound.proofs.Alternatives.{slide_sound}

pub returns : goal.returns
returns c = slide_sound
