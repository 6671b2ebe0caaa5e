use Rattle.std.proofs.Common.{◌≡◌, map, take}
use Rattle.occ_nform_table.specs.Lines.{rank}
use Rattle.occ_nform_read.proofs.lines.set_ranks.Given as goal

abbrev pub invariant-loop-set : goal.invariant-loop-set
invariant-loop-set l = l.all ≡ map (map (rank l.params)) (take l.set-index l.sets)
