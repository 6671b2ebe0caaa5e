use Rattle.occ_complete_states.proofs.Leading.{law_leads, law_leads_back}
use Rattle.occ_complete_states.proofs.laws.sides_of_laws_lead.Goals as goal

pub returns-clause-forward : goal.returns-clause-forward
returns-clause-forward c = λ S n p q. law_leads S n

pub returns-clause-backward : goal.returns-clause-backward
returns-clause-backward c = λ S n p q. law_leads_back S n
