use Rattle.occ_derive_laws.proofs.IfHolding.{cut_law}
use Rattle.occ_derive_laws.proofs.if_laws.if_cut_holds.Goals as goal

pub returns : goal.returns
returns c = cut_law
