use Rattle.std.proofs.Common.{◌↔◌, length}
use Rattle.occ_syntax.specs.View.{trees}
use Rattle.occ_law_shape.specs.Places.{Somewhere}
use Rattle.occ_law_shape.proofs.places.somewhere.Given as goal

-- no place so far
abbrev pub invariant-loop-rest : goal.invariant-loop-rest
invariant-loop-rest g l = Somewhere (g.P.Place.joins l.place) (trees l.rest) (trees l.other_rest) ↔ Somewhere (g.P.Place.joins l.place) (trees l.parts) (trees l.others)

abbrev pub decreases-loop-rest : goal.decreases-loop-rest
decreases-loop-rest g l = length l.rest
