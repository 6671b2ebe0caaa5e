use Rattle.occ_examples.proofs.behaviours.a_hidden_output_stops.Goals as goal
use Rattle.occ_examples.proofs.Silence.{fails_as_stop, never_ends, stop_fails, stop_never_ends}

pub returns : goal.returns
returns given = record {
  same_failures = λ s t X state within. (fails_as_stop s t X, stop_fails s t X);
  same_ends = λ s t r state. (never_ends s t r, stop_never_ends s t r);
}
