use Rattle.std.proofs.Common.{length}
use Rattle.occ_nform_read.proofs.states.+push_paired.Given as goal

abbrev pub decreases-push_paired : goal.decreases-push_paired
decreases-push_paired l = length l.params.now
