use Rattle.occ_complete_states.proofs.Leading.{law_spares, law_spares_back}
use Rattle.occ_complete_states.proofs.laws.sparing_sides_lead.Goals as goal

pub returns-clause-forward : goal.returns-clause-forward
returns-clause-forward c = λ S n p q. law_spares S n

pub returns-clause-backward : goal.returns-clause-backward
returns-clause-backward c = λ S n p q. law_spares_back S n
