use Rattle.occ_derive_laws.proofs.Turns.{one_law, one_law_back, one_spares, one_spares_back}
use Rattle.occ_derive_laws.proofs.parts.seq_one_joins.Goals as goal

pub returns-clause-forward : goal.returns-clause-forward
returns-clause-forward c = one_law

pub returns-clause-backward : goal.returns-clause-backward
returns-clause-backward c = one_law_back

pub returns-clause-sparing : goal.returns-clause-sparing
returns-clause-sparing c = one_spares

pub returns-clause-sparing_back : goal.returns-clause-sparing_back
returns-clause-sparing_back c = one_spares_back
