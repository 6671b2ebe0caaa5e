use Rattle.occ_complete_states.proofs.Leading.{leads_inside}
use Rattle.occ_complete_states.proofs.laws.parts_that_lead_are_replaced.Goals as goal

pub returns : goal.returns
returns c = λ S p a b i. leads_inside S p i
