use Rattle.std.proofs.Common.{vec_len, ◌-◌, ◌+◌}
use Rattle.occ_desk.proofs.real.read_file.Given as goal

abbrev pub decreases-loop-file : goal.decreases-loop-file
decreases-loop-file g l = l.most + 1 - vec_len l.into
