use Rattle.occ_law_sound.proofs.ChoiceSound.{choice_sound}
use Rattle.occ_law_sound.proofs.choice_sound.choice_laws_are_sound.Goals as goal

pub returns : goal.returns
returns c = choice_sound
