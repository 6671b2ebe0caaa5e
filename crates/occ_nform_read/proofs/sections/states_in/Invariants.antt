use Rattle.std.proofs.Common.{◌≡◌, length}
use Rattle.occ_nform_table.specs.occ_lex.Rows.{rows}
use Rattle.occ_nform_table.specs.Reading.{states_in}
use Rattle.occ_nform_read.proofs.Taking.{with_front}
use Rattle.occ_nform_read.proofs.sections.states_in.Given as goal

abbrev pub invariant-loop-line : goal.invariant-loop-line
invariant-loop-line l = with_front l.states (states_in l.params l.n (length l.states) (rows l.rest)) ≡ states_in l.params l.n 0 (rows l.text)

abbrev pub decreases-loop-line : goal.decreases-loop-line
decreases-loop-line l = length l.rest
