use Rattle.std.proofs.Common.{length}
use Rattle.occ_norm_par.proofs.parallel.Sides.+halves.Given as goal

abbrev pub decreases-halves : goal.decreases-halves
decreases-halves l = length l.maps.now
