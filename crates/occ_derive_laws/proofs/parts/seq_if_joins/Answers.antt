use Rattle.occ_derive_laws.proofs.Behind.{if_law, if_law_back, if_spares}
use Rattle.occ_derive_laws.proofs.parts.seq_if_joins.Goals as goal

pub returns-clause-forward : goal.returns-clause-forward
returns-clause-forward c = if_law

pub returns-clause-backward : goal.returns-clause-backward
returns-clause-backward c = if_law_back

pub returns-clause-sparing : goal.returns-clause-sparing
returns-clause-sparing c = if_spares
