use Rattle.occ_derive_laws.proofs.Within.{skip_spares, spares_skip}
use Rattle.occ_derive_laws.proofs.sparing.alt_skip_spares.Goals as goal

pub returns-clause-forward : goal.returns-clause-forward
returns-clause-forward c = skip_spares

pub returns-clause-backward : goal.returns-clause-backward
returns-clause-backward c = spares_skip
