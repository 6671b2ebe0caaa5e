use Rattle.occ_nform.specs.Numbering.{ArePlacedBelow}
use Rattle.occ_nform.proofs.order.by_height.Given as goal

abbrev pub invariant-loop-place : goal.invariant-loop-place
invariant-loop-place l = ArePlacedBelow l.marks l.heights l.place l.placed.items
