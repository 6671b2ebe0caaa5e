use Rattle.std.proofs.Common.{length}
use Rattle.occ_place.proofs.source.trimmed_front.Given as goal

abbrev pub decreases-loop-rest : goal.decreases-loop-rest
decreases-loop-rest l = length l.rest
