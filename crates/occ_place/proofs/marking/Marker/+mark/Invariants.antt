use Rattle.std.proofs.Common.{◌+◌, ◌*◌, ◌≤◌}
use Rattle.occ_syntax.specs.View.{tree, trees, cases, branches}
use Rattle.occ_syntax.proofs.Weights.{weight, weight_of_all, weight_of_cases, weight_of_branches}
use Rattle.occ_place.proofs.marking.Marker.+mark.Given as goal

abbrev pub decreases-part : goal.decreases-part
decreases-part l = 2 * weight (tree l.part.now) + 1

abbrev pub decreases-undeclared : goal.decreases-undeclared
decreases-undeclared l = 2 * weight (tree l.part.now)

abbrev pub decreases-parts : goal.decreases-parts
decreases-parts l = 2 * weight_of_all (trees l.parts.now)

abbrev pub decreases-choices : goal.decreases-choices
decreases-choices l = 2 * weight_of_cases (cases l.choices.now)

abbrev pub decreases-alternatives : goal.decreases-alternatives
decreases-alternatives l = 2 * weight_of_branches (branches l.alternatives.now)

abbrev pub invariant-part-loop-name : goal.invariant-part-loop-name
invariant-part-loop-name l = weight (tree l.rest) ≤ weight (tree l.part)

abbrev pub decreases-part-loop-name : goal.decreases-part-loop-name
decreases-part-loop-name l = weight (tree l.rest)
