use Rattle.std.proofs.Common.{length}
use Rattle.occ_target.proofs.widths.+is_input_width.Given as goal

abbrev pub decreases-is_input_width : goal.decreases-is_input_width
decreases-is_input_width l = length l.params.now
