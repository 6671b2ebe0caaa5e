use Rattle.occ_derive_laws.proofs.Turns.{none_law, none_spares}
use Rattle.occ_derive_laws.proofs.parts.seq_none_joins.Goals as goal

pub returns-clause-law : goal.returns-clause-law
returns-clause-law c = none_law

pub returns-clause-sparing : goal.returns-clause-sparing
returns-clause-sparing c = none_spares
