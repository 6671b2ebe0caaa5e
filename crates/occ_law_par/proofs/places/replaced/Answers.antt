use Rattle.occ_law_par.proofs.Going.{par_leaves, skip_leaves}
use Rattle.occ_law_par.proofs.places.replaced.Goals as goal

pub returns-in-Par-opened : goal.returns-in-Par-opened
returns-in-Par-opened c = par_leaves _ _ _ c.in-Par.is c.in-Par-opened.ensures

pub returns-in-Skip-opened : goal.returns-in-Skip-opened
returns-in-Skip-opened c = skip_leaves _ _ c.in-Skip.is c.in-Skip-opened.ensures
