use Rattle.std.proofs.Common.{length}
use Rattle.occ_target.proofs.state.+push_constants.Given as goal

abbrev pub decreases-push_constants : goal.decreases-push_constants
decreases-push_constants l = length l.params.now
