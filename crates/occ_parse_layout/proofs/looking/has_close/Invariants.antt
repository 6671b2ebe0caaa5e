use Rattle.std.proofs.Common.{◌≡◌, drop}
use Rattle.occ_parse_layout.specs.Layout.{has_close, laid_rows}
use Rattle.occ_parse_layout.proofs.looking.has_close.Given as goal

abbrev pub invariant-loop-row : goal.invariant-loop-row
invariant-loop-row l = has_close l.more (laid_rows (drop l.row-index l.after)) ≡ has_close l.more (laid_rows l.after)
