use Rattle.occ_complete.proofs.Expanding.{expansion_spares}
use Rattle.occ_complete.proofs.Meeting.{expansion}
use Rattle.occ_complete.proofs.par_laws.alternatives_meet.Goals as goal

pub returns-clause-law : goal.returns-clause-law
returns-clause-law c = expansion

pub returns-clause-sparing : goal.returns-clause-sparing
returns-clause-sparing c = expansion_spares
