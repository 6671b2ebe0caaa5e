use Rattle.std.proofs.Common.{length, drop, ◌+◌, ◌-◌, ◌≡◌, ◌≤◌}
use Rattle.occ_lex.specs.Rows.{read_rows, rows}
use Rattle.occ_lex.proofs.RowLemmas.{with_lines}
use Rattle.occ_script_lines.specs.Sections.{reading_in, section}
use Rattle.occ_script_lines.proofs.reading.lines.Given as goal

abbrev pub invariant-loop-at : goal.invariant-loop-at
invariant-loop-at l = record {
  within : l.at ≤ length l.section.upto.now;
  counted : l.number ≤ l.at + 1;
  so_far : with_lines l.lines.items (read_rows l.number l.at (rows (drop l.at l.section.upto.now))) ≡ reading_in (section l.section);
}

abbrev pub decreases-loop-at : goal.decreases-loop-at
decreases-loop-at l = length l.section.upto.now - l.at
