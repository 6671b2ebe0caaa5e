use Rattle.occ_run_steps.proofs.Work.{program_bounded}
use Rattle.occ_run_steps.proofs.run_laws.schedules_are_bounded.Goals as goal

pub returns : goal.returns
returns c = program_bounded
