use Rattle.occ_derive_laws.proofs.Turns.{skip_law, skip_law_back, skip_spares}
use Rattle.occ_derive_laws.proofs.parts.seq_skip_joins.Goals as goal

pub returns-clause-forward : goal.returns-clause-forward
returns-clause-forward c = skip_law

pub returns-clause-backward : goal.returns-clause-backward
returns-clause-backward c = skip_law_back

pub returns-clause-sparing : goal.returns-clause-sparing
returns-clause-sparing c = skip_spares
