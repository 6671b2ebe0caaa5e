use Rattle.occ_law_sound.proofs.Direct.{direct_once}
use Rattle.occ_law_sound.proofs.results_are_one.direct_results_are_one.Goals as goal

pub returns : goal.returns
returns c = direct_once
