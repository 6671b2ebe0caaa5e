use Rattle.std.proofs.Common.{◌≡◌, ◌∙◌, sym, ap, [], Option, Some, length}
use Rattle.occ_behaviour_read.proofs.Counting.{no_text}
use Rattle.occ_nform_read.specs.occ_nform_table.Words.{each, then_read}
use Rattle.occ_nform_read.specs.occ_nform_table.Lines.{event_of}
use Rattle.occ_behaviour_read.specs.Claims.{spaced_words}
use Rattle.occ_behaviour_read.proofs.lines.spaced_events.Goals as goal

pub returns-in-empty : goal.returns-in-empty
unfolding each
returns-in-empty c = ap Some c.new.ensures ∙ sym (ap (λ t. then_read (spaced_words t) (each (event_of c.args.names.now c.args.params.now))) (no_text c.args.text.now c.in-empty.len_below))
