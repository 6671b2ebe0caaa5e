use Rattle.occ_derive_laws.proofs.IfHolding.{false_law}
use Rattle.occ_derive_laws.proofs.if_laws.if_false_holds.Goals as goal

pub returns : goal.returns
returns c = false_law
