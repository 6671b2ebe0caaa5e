use Rattle.std.proofs.Common.{◌≤◌, length}
use Rattle.occ_norm_assign.proofs.run.run_start.Given as goal

abbrev pub invariant-loop-start : goal.invariant-loop-start
invariant-loop-start l = l.start ≤ length l.parts

abbrev pub decreases-loop-start : goal.decreases-loop-start
decreases-loop-start l = l.start
