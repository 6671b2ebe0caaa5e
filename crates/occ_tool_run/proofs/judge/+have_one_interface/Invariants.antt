use Rattle.std.proofs.Common.{length}
use Rattle.occ_tool_run.proofs.judge.+have_one_interface.Given as goal

abbrev pub decreases-have_one_interface : goal.decreases-have_one_interface
decreases-have_one_interface l = length l.left.now
