use Rattle.occ_complete_states.proofs.Leading.{leads_on, spares_itself, spares_on, sparing_leads}
use Rattle.occ_complete_states.proofs.laws.leading_goes_on.Goals as goal

pub returns-clause-itself : goal.returns-clause-itself
returns-clause-itself c = spares_itself

pub returns-clause-on : goal.returns-clause-on
returns-clause-on c = λ S p q r. leads_on S

pub returns-clause-sparing : goal.returns-clause-sparing
returns-clause-sparing c = λ S p q r. spares_on S

pub returns-clause-weaker : goal.returns-clause-weaker
returns-clause-weaker c = λ S p q. sparing_leads S
