use Rattle.std.proofs.Common.{◌≡◌, length}
use Rattle.std.specs.List.{list_any}
use Rattle.occ_run_steps.specs.Step.{not_seen}
use Rattle.occ_run.specs.MeetingRuns.{spelled}
use Rattle.occ_run.proofs.stand.has_unseen.Given as goal

abbrev pub invariant-loop-rest : goal.invariant-loop-rest
invariant-loop-rest l = list_any not_seen (spelled l.rest) ≡ list_any not_seen (spelled l.runs)

abbrev pub decreases-loop-rest : goal.decreases-loop-rest
decreases-loop-rest l = length l.rest
