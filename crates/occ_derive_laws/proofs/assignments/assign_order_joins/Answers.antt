use Rattle.occ_derive_laws.proofs.Orders.{reordered_by}
use Rattle.occ_derive_laws.proofs.Pairs.{order_law}
use Rattle.occ_derive_laws.proofs.assignments.assign_order_joins.Goals as goal

pub returns-clause-law : goal.returns-clause-law
returns-clause-law c = order_law

pub returns-clause-orders : goal.returns-clause-orders
returns-clause-orders c = reordered_by
