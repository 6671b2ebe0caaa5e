use Rattle.occ_complete_states.proofs.Leading.{leads_keep, spares_use}
use Rattle.occ_complete_states.proofs.laws.leading_keeps_the_rules.Goals as goal

pub returns-clause-rules : goal.returns-clause-rules
returns-clause-rules c = λ S p q. leads_keep S

pub returns-clause-sparing : goal.returns-clause-sparing
returns-clause-sparing c = λ S p q. spares_use S
