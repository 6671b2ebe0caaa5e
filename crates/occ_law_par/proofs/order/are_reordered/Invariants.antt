use Rattle.std.proofs.Common.{◌↔◌, length}
use Rattle.occ_syntax.specs.View.{trees}
use Rattle.occ_law_shape.specs.occ_meaning.Parallel.{Reordered}
use Rattle.occ_law_par.specs.Order.{referred}
use Rattle.occ_law_par.proofs.order.are_reordered.Given as goal

-- what is left of one list stands in the other order where the whole does
abbrev pub invariant-loop-rest : goal.invariant-loop-rest
invariant-loop-rest l = Reordered (trees l.rest) (referred l.remaining.items) ↔ Reordered (trees l.parts) (trees l.others)

abbrev pub decreases-loop-rest : goal.decreases-loop-rest
decreases-loop-rest l = length l.rest
