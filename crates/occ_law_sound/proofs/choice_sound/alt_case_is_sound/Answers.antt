use Rattle.occ_law_sound.proofs.choice_sound.alt_case_is_sound.Goals as goal
use Rattle.occ_law_sound.proofs.Alternatives.{case_sound}

pub returns : goal.returns
returns c = case_sound
