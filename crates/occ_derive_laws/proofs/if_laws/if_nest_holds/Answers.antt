use Rattle.occ_derive_laws.proofs.IfHolding.{nest_law}
use Rattle.occ_derive_laws.proofs.if_laws.if_nest_holds.Goals as goal

pub returns : goal.returns
returns c = nest_law
