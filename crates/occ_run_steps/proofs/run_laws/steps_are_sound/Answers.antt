use Rattle.occ_run_steps.proofs.Leading.{leads_sound}
use Rattle.occ_run_steps.proofs.run_laws.steps_are_sound.Goals as goal

pub returns : goal.returns
returns c = leads_sound
