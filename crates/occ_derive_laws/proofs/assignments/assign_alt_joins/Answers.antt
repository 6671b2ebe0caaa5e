use Rattle.occ_derive_laws.proofs.Into.{alt_behind_law, constants_spare}
use Rattle.occ_derive_laws.proofs.assignments.assign_alt_joins.Goals as goal

pub returns-clause-forward : goal.returns-clause-forward
returns-clause-forward c = alt_behind_law

pub returns-clause-spared : goal.returns-clause-spared
returns-clause-spared c = constants_spare
