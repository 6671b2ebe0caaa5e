use Rattle.std.proofs.Common.{◌≡◌, drop}
use Rattle.occ_parse_layout.specs.Layout.{has_process, laid_rows}
use Rattle.occ_parse_layout.proofs.looking.has_process.Given as goal

abbrev pub invariant-loop-row : goal.invariant-loop-row
invariant-loop-row l = has_process l.more l.level (laid_rows (drop l.row-index l.after)) ≡ has_process l.more l.level (laid_rows l.after)
