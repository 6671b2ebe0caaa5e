use Rattle.std.proofs.Common.{drop}
use Rattle.occ_parse_layout.specs.Layout.{laid_rows}
use Rattle.occ_parse.proofs.Rows.{Passed}
use Rattle.occ_parse.proofs.stopping.judge_rows.Given as goal

abbrev pub invariant-loop-row : goal.invariant-loop-row
invariant-loop-row l = Passed l.bound l.rows l.found (laid_rows l.lines.items) (drop l.row-index l.rows)
