use Rattle.occ_derive_laws.proofs.Pairs.{id_law_back}
use Rattle.occ_derive_laws.proofs.assignments.assign_id_joins.Goals as goal

pub returns : goal.returns
returns c = id_law_back
