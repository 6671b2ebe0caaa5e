use Rattle.std.proofs.Common.{length}
use Rattle.occ_place.proofs.source.begins_with.Given as goal

abbrev pub decreases-loop-left : goal.decreases-loop-left
decreases-loop-left l = length l.left
