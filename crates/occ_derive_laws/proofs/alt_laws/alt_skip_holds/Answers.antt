use Rattle.occ_derive_laws.proofs.Holding.{law_skip, skip_law}
use Rattle.occ_derive_laws.proofs.alt_laws.alt_skip_holds.Goals as goal

pub returns-clause-forward : goal.returns-clause-forward
returns-clause-forward c = skip_law

pub returns-clause-backward : goal.returns-clause-backward
returns-clause-backward c = law_skip
