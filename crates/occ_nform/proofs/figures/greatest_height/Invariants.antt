use Rattle.occ_nform.proofs.Counting.{AreHeights}
use Rattle.occ_nform.proofs.figures.greatest_height.Given as goal

abbrev pub invariant-loop-row : goal.invariant-loop-row
invariant-loop-row l = AreHeights l.rows l.heights.items l.row-index l.height
