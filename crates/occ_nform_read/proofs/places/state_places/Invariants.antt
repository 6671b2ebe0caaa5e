use Rattle.std.proofs.Common.{◌≡◌, map, take}
use Rattle.occ_nform_table.specs.Lines.{state_place}
use Rattle.occ_nform_read.proofs.places.state_places.Given as goal

abbrev pub invariant-loop-state : goal.invariant-loop-state
invariant-loop-state l = l.places ≡ map (state_place l.params) (take l.state-index l.states)
