use Rattle.occ_run_steps.proofs.Complete.{program_does, program_reached}
use Rattle.occ_run_steps.proofs.run_laws.programs_do_what_schedules_reach.Goals as goal

pub returns : goal.returns
returns c = λ Γ p s h state t o. (program_reached Γ p s h state t o, program_does Γ p s h state t o)
