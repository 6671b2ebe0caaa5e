use Rattle.std.proofs.Common.{◌≡◌, ◌+◌, drop}
use Rattle.occ_nform_read.specs.occ_lex.Rows.{rows}
use Rattle.occ_behaviour_read.proofs.lines.line.Given as goal

abbrev pub invariant-loop-before : goal.invariant-loop-before
invariant-loop-before l = rows l.rest ≡ drop l._before (rows l.text)
