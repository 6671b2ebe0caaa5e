use Rattle.std.proofs.Common.{take}
use Rattle.occ_syntax.specs.View.{in_procs, trees}
use Rattle.occ_norm_arrange.specs.Split.{IsSplit}
use Rattle.occ_norm_arrange.proofs.split.parted.Given as goal

-- the parts so far are split
abbrev pub invariant-loop-part : goal.invariant-loop-part
invariant-loop-part l = IsSplit (trees (take l.part-index l.parts)) (trees (in_procs l.split.front)) (trees (in_procs l.split.others)) l.split.writes l.split.names
