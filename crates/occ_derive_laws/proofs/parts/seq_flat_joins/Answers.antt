use Rattle.occ_derive_laws.proofs.Turns.{flat_law, flat_law_back, flat_spares, flat_spares_back}
use Rattle.occ_derive_laws.proofs.parts.seq_flat_joins.Goals as goal

pub returns-clause-forward : goal.returns-clause-forward
returns-clause-forward c = flat_law

pub returns-clause-backward : goal.returns-clause-backward
returns-clause-backward c = flat_law_back

pub returns-clause-sparing : goal.returns-clause-sparing
returns-clause-sparing c = flat_spares

pub returns-clause-sparing_back : goal.returns-clause-sparing_back
returns-clause-sparing_back c = flat_spares_back
