use Rattle.occ_meaning.proofs.AssignedFirst.{par_assign}
use Rattle.occ_meaning.proofs.parallel.assignments_may_leave_a_par.Goals as goal

pub returns : goal.returns
returns c = par_assign
