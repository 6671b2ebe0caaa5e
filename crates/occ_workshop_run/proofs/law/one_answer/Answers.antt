use Rattle.occ_workshop_run.proofs.Once.{once}
use Rattle.occ_workshop_run.proofs.law.one_answer.Goals as goal

pub returns : goal.returns
returns c = once c.one_answer.ensures
