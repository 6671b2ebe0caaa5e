use Rattle.std.proofs.Common.{◌+◌, ◌*◌}
use Rattle.occ_norm_par.proofs.joint.Known.+sequel.Given as goal

abbrev pub decreases-half : goal.decreases-half
decreases-half l = 3 * l.stage.left + 1

abbrev pub decreases-halves : goal.decreases-halves
decreases-halves l = 3 * l.stage.left + 2

abbrev pub decreases-sequel : goal.decreases-sequel
decreases-sequel l = 3 * l.stage.left
