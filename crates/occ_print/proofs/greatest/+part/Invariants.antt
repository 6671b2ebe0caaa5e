use Rattle.std.proofs.Common.{◌≡◌, ◌+◌, ◌*◌, ◌≤◌, drop}
use Rattle.occ_print.specs.Greatest.{greatest, greatest_of_all, greatest_of_branches, greatest_of_cases}
use Rattle.occ_syntax.proofs.Weights.{weight, weight_of_all, weight_of_branches, weight_of_cases}
use Rattle.occ_syntax.specs.View.{branches, cases, tree, trees}
use Rattle.occ_print.proofs.greatest.+part.Given as goal

abbrev pub decreases-of_part : goal.decreases-of_part
decreases-of_part l = 2 * weight (tree l.part.now) + 1

abbrev pub decreases-of_construct : goal.decreases-of_construct
decreases-of_construct l = 2 * weight (tree l.part.now)

abbrev pub decreases-of_parts : goal.decreases-of_parts
decreases-of_parts l = 2 * weight_of_all (trees l.parts.now)

abbrev pub decreases-of_choices : goal.decreases-of_choices
decreases-of_choices l = 2 * weight_of_cases (cases l.choices.now)

abbrev pub decreases-of_alternatives : goal.decreases-of_alternatives
decreases-of_alternatives l = 2 * weight_of_branches (branches l.alternatives.now)

-- the rest with the greatest so far
abbrev pub invariant-of_part-loop-name : goal.invariant-of_part-loop-name
invariant-of_part-loop-name l = record {
  whole : greatest (tree l.rest) l.found ≡ greatest (tree l.part) l.most;
  left : weight (tree l.rest) ≤ weight (tree l.part);
}

abbrev pub decreases-of_part-loop-name : goal.decreases-of_part-loop-name
decreases-of_part-loop-name l = weight (tree l.rest)

-- the parts that are left, with the greatest so far
abbrev pub invariant-of_parts-loop-part : goal.invariant-of_parts-loop-part
invariant-of_parts-loop-part l = greatest_of_all (trees (drop l.part-index l.parts)) l.found ≡ greatest_of_all (trees l.parts) l.most

abbrev pub invariant-of_choices-loop-condition : goal.invariant-of_choices-loop-condition
invariant-of_choices-loop-condition l = greatest_of_cases (cases (drop l.condition-index l.choices)) l.found ≡ greatest_of_cases (cases l.choices) l.most

abbrev pub invariant-of_alternatives-loop-guard : goal.invariant-of_alternatives-loop-guard
invariant-of_alternatives-loop-guard l = greatest_of_branches (branches (drop l.guard-index l.alternatives)) l.found ≡ greatest_of_branches (branches l.alternatives) l.most
