use Rattle.occ_complete_states.proofs.Pointwise.{branches_lead, cases_lead}
use Rattle.occ_complete_states.proofs.laws.processes_that_lead_are_replaced.Goals as goal

pub returns-clause-choices : goal.returns-clause-choices
returns-clause-choices c = λ S cs ds. cases_lead S

pub returns-clause-branches : goal.returns-clause-branches
returns-clause-branches c = λ S gs hs. branches_lead S
