use Rattle.occ_meaning.proofs.Parts.{par_skip}
use Rattle.occ_meaning.proofs.parallel.skip_in_par_is_nothing.Goals as goal

pub returns : goal.returns
returns c = par_skip
