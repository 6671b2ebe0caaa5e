use Rattle.occ_law_sound.proofs.Direct.{sides_once}
use Rattle.occ_law_sound.proofs.results_are_one.sides_are_one.Goals as goal

pub returns : goal.returns
returns c = sides_once
