use Rattle.std.proofs.Common.{◌≡◌, length}
use Rattle.occ_syntax.specs.View.{branches}
use Rattle.occ_law_shape.specs.occ_law.Choice.{are_plain_events}
use Rattle.occ_law_alt.proofs.guards.are_plain_events.Given as goal

-- the branches so far decide nothing
abbrev pub invariant-loop-rest : goal.invariant-loop-rest
invariant-loop-rest l = are_plain_events (branches l.rest) ≡ are_plain_events (branches l.alternatives)

abbrev pub decreases-loop-rest : goal.decreases-loop-rest
decreases-loop-rest l = length l.rest
