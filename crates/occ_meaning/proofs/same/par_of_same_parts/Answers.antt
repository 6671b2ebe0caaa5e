use Rattle.occ_meaning.proofs.Contexts.{par_same}
use Rattle.occ_meaning.proofs.same.par_of_same_parts.Goals as goal

pub returns : goal.returns
returns c = par_same
