use Rattle.occ_meaning.proofs.Parts.{par_reordered}
use Rattle.occ_meaning.proofs.parallel.parts_may_stand_in_any_order.Goals as goal

pub returns : goal.returns
returns c = par_reordered
