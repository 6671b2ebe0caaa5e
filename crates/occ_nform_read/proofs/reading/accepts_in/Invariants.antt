use Rattle.std.proofs.Common.{◌≡◌, length}
use Rattle.occ_nform_table.specs.occ_lex.Rows.{rows}
use Rattle.occ_nform_table.specs.Lines.{accept_of}
use Rattle.occ_nform_table.specs.Reading.{taken}
use Rattle.occ_nform_read.proofs.Taking.{with_front}
use Rattle.occ_nform_read.proofs.reading.accepts_in.Given as goal

abbrev pub invariant-loop-line : goal.invariant-loop-line
invariant-loop-line l = with_front l.sets (taken (accept_of l.names l.params) (rows l.rest)) ≡ taken (accept_of l.names l.params) (rows l.text)

abbrev pub decreases-loop-line : goal.decreases-loop-line
decreases-loop-line l = length l.rest
