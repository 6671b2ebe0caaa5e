use Rattle.std.proofs.Common.{length, drop, ◌+◌, ◌-◌, ◌≡◌, ◌≤◌}
use Rattle.occ_lex.specs.Rows.{read_rows, reading_of, rows}
use Rattle.occ_lex.proofs.RowLemmas.{with_lines}
use Rattle.occ_lex.proofs.reading.read.Given as goal

abbrev pub invariant-loop-at : goal.invariant-loop-at
invariant-loop-at l = record {
  within : l.at ≤ length l.text;
  counted : l.number ≤ l.at + 1;
  so_far : with_lines l.lines.items (read_rows l.number l.at (rows (drop l.at l.text))) ≡ reading_of l.text;
}

abbrev pub decreases-loop-at : goal.decreases-loop-at
decreases-loop-at l = length l.text - l.at
