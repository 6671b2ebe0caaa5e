use Rattle.std.proofs.Common.{◌≡◌, ◌≤◌, ◌*◌, ◌+◌, drop, length}
use Rattle.occ_nform_table.specs.Lines.{is_rising}
use Rattle.occ_nform_read.proofs.events.are_rising.Given as goal

abbrev pub invariant-loop-event : goal.invariant-loop-event
invariant-loop-event l = record {
  so_far : is_rising l.params l.floor (drop l.event-index l.events) ≡ is_rising l.params 0 l.events;
  small : l.floor ≤ 256 * (length l.params + 1);
}
