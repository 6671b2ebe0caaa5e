use Rattle.std.proofs.Common.{take}
use Rattle.occ_syntax.proofs.Weights.{weight, weight_of_all}
use Rattle.occ_syntax.specs.View.{tree, trees}
use Rattle.occ_norm_arrange.specs.FlatArranged.{AddsAll}
use Rattle.occ_norm_arrange.proofs.order.+add_part.Given as goal

abbrev pub decreases-add_part : goal.decreases-add_part
decreases-add_part l = weight (tree l.part.now)

abbrev pub decreases-add_parts : goal.decreases-add_parts
decreases-add_parts l = weight_of_all (trees l.parts.now)

-- the parts so far are added
abbrev pub invariant-add_parts-loop-part : goal.invariant-add_parts-loop-part
invariant-add_parts-loop-part l = AddsAll (trees l.initial.list.items) (trees (take l.part-index l.parts)) (trees l.list.items)
