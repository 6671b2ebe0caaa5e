use Rattle.occ_derive_laws.proofs.Turns.{flat_last, flat_last_back, flat_last_spares_back}
use Rattle.occ_derive_laws.proofs.parts.seq_flat_joins_last.Goals as goal

pub returns-clause-forward : goal.returns-clause-forward
returns-clause-forward c = flat_last

pub returns-clause-backward : goal.returns-clause-backward
returns-clause-backward c = flat_last_back

pub returns-clause-sparing_back : goal.returns-clause-sparing_back
returns-clause-sparing_back c = flat_last_spares_back
