use Rattle.occ_run_steps.proofs.Complete.{program_trace}
use Rattle.occ_run_steps.proofs.run_laws.schedules_have_traces_of_the_program.Goals as goal

pub returns : goal.returns
returns c = program_trace
