use Rattle.std.proofs.Common.{◌≡◌, drop}
use Rattle.occ_parse_part.specs.occ_parse_layout.Layout.{laid_rows}
use Rattle.occ_script.specs.Lines.{lacks_part}
use Rattle.occ_script.proofs.judging.lacks_part.Given as goal

-- the lines so far are further down
abbrev pub invariant-loop-line : goal.invariant-loop-line
invariant-loop-line l = lacks_part (laid_rows (drop l.line-index l.lines)) l.stop ≡ lacks_part (laid_rows l.lines) l.stop
