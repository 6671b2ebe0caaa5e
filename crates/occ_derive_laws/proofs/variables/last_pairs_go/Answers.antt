use Rattle.occ_derive_laws.proofs.Values.{last_pair_goes}
use Rattle.occ_derive_laws.proofs.variables.last_pairs_go.Goals as goal

pub returns : goal.returns
returns c = last_pair_goes
