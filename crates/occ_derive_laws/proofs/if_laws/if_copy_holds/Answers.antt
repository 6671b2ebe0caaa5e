use Rattle.occ_derive_laws.proofs.IfHolding.{copy_law}
use Rattle.occ_derive_laws.proofs.if_laws.if_copy_holds.Goals as goal

pub returns : goal.returns
returns c = copy_law
