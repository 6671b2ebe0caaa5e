use Rattle.occ_derive_laws.proofs.Holding.{false_law}
use Rattle.occ_derive_laws.proofs.alt_laws.alt_false_holds.Goals as goal

pub returns : goal.returns
returns c = false_law
