use Rattle.std.proofs.Common.{◌≡◌, ◌++◌, length}
use Rattle.occ_run_schedule.proofs.following.copied.Given as goal

abbrev pub invariant-loop-rest : goal.invariant-loop-rest
invariant-loop-rest l = l.copy ++ l.rest ≡ l.events

abbrev pub decreases-loop-rest : goal.decreases-loop-rest
decreases-loop-rest l = length l.rest
