use Rattle.occ_complete.proofs.Beside.{assignment_leaves, assignment_leaves_spares}
use Rattle.occ_complete.proofs.par_laws.assignments_leave_pars.Goals as goal

pub returns-clause-law : goal.returns-clause-law
returns-clause-law c = assignment_leaves

pub returns-clause-sparing : goal.returns-clause-sparing
returns-clause-sparing c = assignment_leaves_spares
