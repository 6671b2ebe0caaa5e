use Rattle.occ_run_steps.proofs.Settling.{settled_stays}
use Rattle.occ_run_steps.proofs.law.what_is_settled_stays.Goals as goal

pub returns : goal.returns
returns c = settled_stays
