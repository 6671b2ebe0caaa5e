use Rattle.occ_derive_laws.proofs.Pairs.{pad_law, pad_law_back}
use Rattle.occ_derive_laws.proofs.assignments.assign_pad_joins.Goals as goal

pub returns-clause-forward : goal.returns-clause-forward
returns-clause-forward c = pad_law

pub returns-clause-backward : goal.returns-clause-backward
returns-clause-backward c = pad_law_back
