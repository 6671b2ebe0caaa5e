use Rattle.std.proofs.Common.{length}
use Rattle.occ_nform_read.proofs.params.+is_among.Given as goal

abbrev pub decreases-is_among : goal.decreases-is_among
decreases-is_among l = length l.params.now
