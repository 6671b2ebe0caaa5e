use Rattle.occ_complete.proofs.Beside.{others_as_one, others_as_one_spares}
use Rattle.occ_complete.proofs.par_laws.others_become_one.Goals as goal

pub returns-clause-law : goal.returns-clause-law
returns-clause-law c = others_as_one

pub returns-clause-sparing : goal.returns-clause-sparing
returns-clause-sparing c = others_as_one_spares
