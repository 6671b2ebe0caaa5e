use Rattle.occ_run_steps.proofs.Complete.{reached}
use Rattle.occ_run_steps.proofs.run_laws.steps_are_complete.Goals as goal

pub returns : goal.returns
returns c = reached
