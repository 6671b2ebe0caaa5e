use Rattle.occ_law_sound.proofs.AllLaws.{all_sound}
use Rattle.occ_law_sound.proofs.all_sound.laws_are_sound.Goals as goal

pub returns : goal.returns
returns c = all_sound
