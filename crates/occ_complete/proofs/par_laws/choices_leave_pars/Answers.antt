use Rattle.occ_complete.proofs.Beside.{choices_leave, choices_leave_spares}
use Rattle.occ_complete.proofs.par_laws.choices_leave_pars.Goals as goal

pub returns-clause-law : goal.returns-clause-law
returns-clause-law c = choices_leave

pub returns-clause-sparing : goal.returns-clause-sparing
returns-clause-sparing c = choices_leave_spares
