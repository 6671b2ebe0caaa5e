use Rattle.occ_derive_laws.proofs.Behind.{alt_law, alt_law_back, alt_spares}
use Rattle.occ_derive_laws.proofs.parts.seq_alt_joins.Goals as goal

pub returns-clause-forward : goal.returns-clause-forward
returns-clause-forward c = alt_law

pub returns-clause-backward : goal.returns-clause-backward
returns-clause-backward c = alt_law_back

pub returns-clause-sparing : goal.returns-clause-sparing
returns-clause-sparing c = alt_spares
