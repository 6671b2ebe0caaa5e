use Rattle.std.proofs.Common.{◌↔◌, length}
use Rattle.occ_syntax.specs.View.{branches}
use Rattle.occ_law_alt.specs.Places.{Somewhere}
use Rattle.occ_law_alt.proofs.search.somewhere.Given as goal

-- no place so far
abbrev pub invariant-loop-rest : goal.invariant-loop-rest
invariant-loop-rest g l = Somewhere (g.P.BranchPlace.joins l.place) (branches l.rest) (branches l.other_rest) ↔ Somewhere (g.P.BranchPlace.joins l.place) (branches l.alternatives) (branches l.others)

abbrev pub decreases-loop-rest : goal.decreases-loop-rest
decreases-loop-rest g l = length l.rest
