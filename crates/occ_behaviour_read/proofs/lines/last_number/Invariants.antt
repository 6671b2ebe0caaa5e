use Rattle.std.proofs.Common.{◌≡◌, ◌+◌, length}
use Rattle.occ_nform_read.specs.occ_lex.Rows.{rows}
use Rattle.occ_behaviour_read.proofs.lines.last_number.Given as goal

abbrev pub invariant-loop-after : goal.invariant-loop-after
invariant-loop-after l = l.count + length (rows l.rest) ≡ length (rows l.text)

abbrev pub decreases-loop-after : goal.decreases-loop-after
decreases-loop-after l = length l.rest
