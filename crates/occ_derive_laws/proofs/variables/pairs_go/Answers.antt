use Rattle.occ_derive_laws.proofs.Values.{pair_goes}
use Rattle.occ_derive_laws.proofs.variables.pairs_go.Goals as goal

pub returns : goal.returns
returns c = pair_goes
