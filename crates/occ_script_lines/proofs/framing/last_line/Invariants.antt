use Rattle.std.proofs.Common.{◌≡◌, ◌≤◌, ◌+◌, ◌-◌, drop, length}
use Rattle.std.specs.Option.{unwrap_or}
use Rattle.occ_lex.specs.Rows.{rows}
use Rattle.occ_script_lines.specs.Sections.{last_from, last_line_of}
use Rattle.occ_script_lines.proofs.framing.last_line.Given as goal

abbrev pub invariant-loop-at : goal.invariant-loop-at
invariant-loop-at l = record {
  within : l.at ≤ length l.text;
  counted : l.number ≤ l.at + 1;
  so_far : unwrap_or (last_from l.number (rows (drop l.at l.text))) l.last ≡ last_line_of l.text;
}

abbrev pub decreases-loop-at : goal.decreases-loop-at
decreases-loop-at l = length l.text - l.at
