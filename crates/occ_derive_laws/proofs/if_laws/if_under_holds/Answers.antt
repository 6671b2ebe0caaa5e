use Rattle.occ_derive_laws.proofs.IfHolding.{under_law}
use Rattle.occ_derive_laws.proofs.if_laws.if_under_holds.Goals as goal

pub returns : goal.returns
returns c = under_law
