use Rattle.occ_derive_laws.proofs.Holding.{order_law}
use Rattle.occ_derive_laws.proofs.alt_laws.alt_order_holds.Goals as goal

pub returns : goal.returns
returns c = order_law
