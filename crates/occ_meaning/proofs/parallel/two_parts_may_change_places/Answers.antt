use Rattle.occ_meaning.proofs.Parts.{par_turned}
use Rattle.occ_meaning.proofs.parallel.two_parts_may_change_places.Goals as goal

pub returns : goal.returns
returns c = par_turned
