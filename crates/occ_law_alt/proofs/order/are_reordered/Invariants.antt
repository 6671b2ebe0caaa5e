use Rattle.std.proofs.Common.{◌↔◌, length}
use Rattle.occ_syntax.specs.View.{branches}
use Rattle.occ_law_shape.specs.occ_law.Lists.{BranchesReordered}
use Rattle.occ_law_alt.specs.Lacking.{shown}
use Rattle.occ_law_alt.proofs.order.are_reordered.Given as goal

-- equal branches so far are cancelled
abbrev pub invariant-loop-rest : goal.invariant-loop-rest
invariant-loop-rest l = BranchesReordered (branches l.rest) (shown l.left_over.items) ↔ BranchesReordered (branches l.alternatives) (branches l.others)

abbrev pub decreases-loop-rest : goal.decreases-loop-rest
decreases-loop-rest l = length l.rest
