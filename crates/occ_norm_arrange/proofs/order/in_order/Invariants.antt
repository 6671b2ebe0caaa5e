use Rattle.std.proofs.Common.{length}
use Rattle.occ_meaning.specs.Parallel.{Reordered, all_of}
use Rattle.occ_syntax.specs.View.{in_procs, trees}
use Rattle.occ_norm_arrange.proofs.order.in_order.Given as goal

-- the sorted parts and then the others are all
abbrev pub invariant-loop-at : goal.invariant-loop-at
invariant-loop-at l = Reordered (trees l.fn.parts.items) (all_of (trees (in_procs l.sorted)) (trees l.rest.items))

abbrev pub invariant-loop-rest : goal.invariant-loop-rest
invariant-loop-rest l = Reordered (trees l.fn.parts.items) (all_of (trees (in_procs l.sorted)) (trees l.rest.items))

abbrev pub decreases-loop-rest : goal.decreases-loop-rest
decreases-loop-rest l = length l.rest.items
