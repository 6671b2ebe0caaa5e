use Rattle.occ_derive_laws.proofs.IfHolding.{true_law}
use Rattle.occ_derive_laws.proofs.if_laws.if_true_holds.Goals as goal

pub returns : goal.returns
returns c = true_law
