use Rattle.std.proofs.Common.{◌≡◌, length}
use Rattle.occ_syntax.specs.View.{branches}
use Rattle.occ_law_shape.specs.occ_law.Choice.{has_skip}
use Rattle.occ_law_alt.proofs.guards.has_skip.Given as goal

-- the branches so far decide nothing
abbrev pub invariant-loop-rest : goal.invariant-loop-rest
invariant-loop-rest l = has_skip (branches l.rest) ≡ has_skip (branches l.alternatives)

abbrev pub decreases-loop-rest : goal.decreases-loop-rest
decreases-loop-rest l = length l.rest
