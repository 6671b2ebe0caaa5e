use Rattle.std.proofs.Common.{◌≡◌, ◌≤◌, ◌+◌, ◌-◌, length}
use Rattle.occ_nform_table.specs.occ_lex.Rows.{rows}
use Rattle.occ_nform_table.specs.Reading.{rows_in}
use Rattle.occ_nform_read.proofs.Taking.{with_front}
use Rattle.occ_nform_read.proofs.sections.rows_in.Given as goal

abbrev pub invariant-loop-line : goal.invariant-loop-line
invariant-loop-line l = record {
  so_far : with_front l.found (rows_in l.names l.params (length (rows l.text) - length l.found) (length l.found) (rows l.rest)) ≡ rows_in l.names l.params (length (rows l.text)) 0 (rows l.text);
  fits : length l.found + length (rows l.rest) ≤ length (rows l.text);
}

abbrev pub decreases-loop-line : goal.decreases-loop-line
decreases-loop-line l = length (rows l.rest)
