use Rattle.occ_run_steps.proofs.Settling.{settled_is_settled}
use Rattle.occ_run_steps.proofs.law.what_is_settled_is_settled.Goals as goal

pub returns : goal.returns
returns c = settled_is_settled
