use Rattle.std.proofs.Common.{◌≡◌, drop}
use Rattle.occ_syntax.specs.View.{cases, tree, trees}
use Rattle.occ_syntax.proofs.Weights.{weight, weight_of_all, weight_of_cases}
use Rattle.occ_norm_arrange.specs.Straight.{all_straight, leads_straight}
use Rattle.occ_norm_arrange.proofs.straight.+is_straight.Given as goal

abbrev pub decreases-is_straight : goal.decreases-is_straight
decreases-is_straight l = weight (tree l.part.now)

abbrev pub decreases-are_straight : goal.decreases-are_straight
decreases-are_straight l = weight_of_all (trees l.parts.now)

abbrev pub decreases-leads_straight : goal.decreases-leads_straight
decreases-leads_straight l = weight_of_cases (cases l.choices.now)

-- it is left to the parts that are left
abbrev pub invariant-are_straight-loop-part : goal.invariant-are_straight-loop-part
invariant-are_straight-loop-part l = all_straight (trees l.parts) ≡ all_straight (trees (drop l.part-index l.parts))

-- it is left to the choices that are left
abbrev pub invariant-leads_straight-loop-condition : goal.invariant-leads_straight-loop-condition
invariant-leads_straight-loop-condition l = leads_straight (cases l.choices) ≡ leads_straight (cases (drop l.condition-index l.choices))
