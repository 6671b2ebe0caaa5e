use Rattle.std.proofs.Common.{◌≡◌, ◌≤◌, ◌+◌, max, drop, length}
use Rattle.occ_nform_rows.specs.occ_nform_table.Judging.{height_over}
use Rattle.occ_nform.proofs.figures.height_over.Given as goal

abbrev pub invariant-loop-row : goal.invariant-loop-row
invariant-loop-row l = (max l.height (height_over l.heights (drop l.row-index l.offers)) ≡ height_over l.heights l.offers) × (l.height ≤ 1 + length l.heights)
