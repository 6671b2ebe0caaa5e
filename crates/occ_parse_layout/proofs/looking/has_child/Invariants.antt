use Rattle.std.proofs.Common.{◌≡◌, drop}
use Rattle.occ_parse_layout.specs.Layout.{has_child, laid_rows}
use Rattle.occ_parse_layout.proofs.looking.has_child.Given as goal

abbrev pub invariant-loop-row : goal.invariant-loop-row
invariant-loop-row l = has_child l.more l.level (laid_rows (drop l.row-index l.after)) ≡ has_child l.more l.level (laid_rows l.after)
