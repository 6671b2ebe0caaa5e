use Rattle.occ_derive_laws.proofs.Within.{flat_spares, spares_flat}
use Rattle.occ_derive_laws.proofs.sparing.alt_flat_spares.Goals as goal

pub returns-clause-forward : goal.returns-clause-forward
returns-clause-forward c = flat_spares

pub returns-clause-backward : goal.returns-clause-backward
returns-clause-backward c = spares_flat
