use Rattle.occ_derive_laws.proofs.Holding.{least_law}
use Rattle.occ_derive_laws.proofs.alt_laws.alt_least_holds.Goals as goal

pub returns : goal.returns
returns c = least_law
