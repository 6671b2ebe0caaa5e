use Rattle.occ_derive_laws.proofs.Holding.{none_law}
use Rattle.occ_derive_laws.proofs.alt_laws.alt_none_holds.Goals as goal

pub returns : goal.returns
returns c = none_law
