use Rattle.std.proofs.Common.{◌≡◌, ◌≤◌, ◌-◌, drop, length}
use Rattle.std.specs.List.{list_all}
use Rattle.occ_lex.specs.Rows.{rows}
use Rattle.occ_script_lines.specs.Lines.{is_blank_row}
use Rattle.occ_script_lines.specs.Sections.{is_blank_in, section}
use Rattle.occ_script_lines.proofs.framing.is_blank.Given as goal

abbrev pub invariant-loop-at : goal.invariant-loop-at
invariant-loop-at l = record {
  within : l.at ≤ length l.section.upto.now;
  so_far : list_all is_blank_row (rows (drop l.at l.section.upto.now)) ≡ is_blank_in (section l.section);
}

abbrev pub decreases-loop-at : goal.decreases-loop-at
decreases-loop-at l = length l.section.upto.now - l.at
