use Rattle.std.proofs.Common.{take}
use Rattle.occ_norm_par.specs.Sides.{AllWritten}
use Rattle.occ_norm_par.proofs.parallel.writes_of.Given as goal

abbrev pub invariant-loop-part : goal.invariant-loop-part
invariant-loop-part l = AllWritten l.frame.layout (take l.part-index l.parts) l.writes.items
