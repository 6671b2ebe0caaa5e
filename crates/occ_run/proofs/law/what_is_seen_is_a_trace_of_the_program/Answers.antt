use Rattle.occ_run.proofs.Standing.{trace_belongs}
use Rattle.occ_run.proofs.law.what_is_seen_is_a_trace_of_the_program.Goals as goal

pub returns : goal.returns
returns c = λ program accepted state is k ns d follows. trace_belongs program accepted state is k ns d follows
