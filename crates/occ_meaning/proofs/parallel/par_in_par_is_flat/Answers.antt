use Rattle.occ_meaning.proofs.Parts.{par_flat}
use Rattle.occ_meaning.proofs.parallel.par_in_par_is_flat.Goals as goal

pub returns : goal.returns
returns c = par_flat
