use Rattle.occ_derive_laws.proofs.Holding.{law_twice, twice_law}
use Rattle.occ_derive_laws.proofs.alt_laws.alt_twice_holds.Goals as goal

pub returns-clause-forward : goal.returns-clause-forward
returns-clause-forward c = twice_law

pub returns-clause-backward : goal.returns-clause-backward
returns-clause-backward c = law_twice
