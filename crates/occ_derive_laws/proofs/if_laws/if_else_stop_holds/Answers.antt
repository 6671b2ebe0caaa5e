use Rattle.occ_derive_laws.proofs.IfHolding.{law_else}
use Rattle.occ_derive_laws.proofs.if_laws.if_else_stop_holds.Goals as goal

pub returns : goal.returns
returns c = law_else
