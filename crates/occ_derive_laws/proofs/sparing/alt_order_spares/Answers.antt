use Rattle.occ_derive_laws.proofs.Within.{order_spares}
use Rattle.occ_derive_laws.proofs.sparing.alt_order_spares.Goals as goal

pub returns : goal.returns
returns c = order_spares
