use Rattle.std.proofs.Common.{◌<◌}
use Rattle.occ_norm_par.proofs.users.row_start.Given as goal

-- the row begins in front of the place
abbrev pub invariant-loop-start : goal.invariant-loop-start
invariant-loop-start l = l.start < l.end

abbrev pub decreases-loop-start : goal.decreases-loop-start
decreases-loop-start l = l.start
