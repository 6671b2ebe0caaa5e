use Rattle.occ_derive_laws.proofs.Holding.{flat_law, law_flat}
use Rattle.occ_derive_laws.proofs.alt_laws.alt_flat_holds.Goals as goal

pub returns-clause-forward : goal.returns-clause-forward
returns-clause-forward c = flat_law

pub returns-clause-backward : goal.returns-clause-backward
returns-clause-backward c = law_flat
