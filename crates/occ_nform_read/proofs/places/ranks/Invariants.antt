use Rattle.std.proofs.Common.{◌≡◌, map, take}
use Rattle.occ_nform_table.specs.Lines.{rank}
use Rattle.occ_nform_read.proofs.places.ranks.Given as goal

abbrev pub invariant-loop-event : goal.invariant-loop-event
invariant-loop-event l = l.ranks ≡ map (rank l.params) (take l.event-index l.events)
