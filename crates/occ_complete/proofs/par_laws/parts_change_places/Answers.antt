use Rattle.occ_complete.proofs.Beside.{turned, turned_spares}
use Rattle.occ_complete.proofs.par_laws.parts_change_places.Goals as goal

pub returns-clause-law : goal.returns-clause-law
returns-clause-law c = turned

pub returns-clause-sparing : goal.returns-clause-sparing
returns-clause-sparing c = turned_spares
