use Rattle.occ_derive_laws.proofs.Holding.{same_law}
use Rattle.occ_derive_laws.proofs.alt_laws.alt_same_holds.Goals as goal

pub returns : goal.returns
returns c = same_law
