use Rattle.occ_derive_laws.proofs.Pairs.{join_law, join_law_back}
use Rattle.occ_derive_laws.proofs.assignments.assign_join_joins.Goals as goal

pub returns-clause-forward : goal.returns-clause-forward
returns-clause-forward c = join_law

pub returns-clause-backward : goal.returns-clause-backward
returns-clause-backward c = join_law_back
