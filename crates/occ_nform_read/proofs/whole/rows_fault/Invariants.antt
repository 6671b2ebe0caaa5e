use Rattle.std.proofs.Common.{drop}
use Rattle.occ_nform_read.specs.Marks.{seen}
use Rattle.occ_nform_read.specs.Walk.{Walked}
use Rattle.occ_nform_read.proofs.whole.rows_fault.Given as goal

abbrev pub invariant-loop-row : goal.invariant-loop-row
invariant-loop-row l = Walked l.names l.params l.rows l.row-index l.line l.heights.items (seen l.before) (drop l.row-index l.rows)
