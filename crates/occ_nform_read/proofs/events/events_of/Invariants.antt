use Rattle.std.proofs.Common.{◌≡◌, length}
use Rattle.occ_nform_table.specs.Words.{each, items_of, words}
use Rattle.occ_nform_table.specs.Lines.{event_of}
use Rattle.occ_nform_read.proofs.Splitting.{with_items}
use Rattle.occ_nform_read.proofs.events.events_of.Given as goal

abbrev pub invariant-loop-word : goal.invariant-loop-word
invariant-loop-word l = with_items l.events (each (event_of l.names l.params) (words l.rest)) ≡ each (event_of l.names l.params) (items_of l.text)

abbrev pub decreases-loop-word : goal.decreases-loop-word
decreases-loop-word l = length l.rest
