use Rattle.occ_derive_laws.proofs.Into.{if_behind_law}
use Rattle.occ_derive_laws.proofs.assignments.assign_if_joins.Goals as goal

pub returns : goal.returns
returns c = if_behind_law
