use Rattle.occ_derive_laws.proofs.Values.{pair_comes}
use Rattle.occ_derive_laws.proofs.variables.pairs_come.Goals as goal

pub returns : goal.returns
returns c = pair_comes
