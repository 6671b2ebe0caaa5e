use Rattle.occ_derive_laws.proofs.Turns.{stop_law, stop_spares}
use Rattle.occ_derive_laws.proofs.parts.seq_stop_joins.Goals as goal

pub returns-clause-forward : goal.returns-clause-forward
returns-clause-forward c = stop_law

pub returns-clause-sparing : goal.returns-clause-sparing
returns-clause-sparing c = stop_spares
