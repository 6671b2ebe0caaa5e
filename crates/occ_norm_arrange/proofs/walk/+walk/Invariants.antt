use Rattle.std.proofs.Common.{◌≡◌, ◌*◌, ◌+◌, ◌≤◌, IfSome, take}
use Rattle.occ_syntax.proofs.Weights.{weight, weight_of_all, weight_of_branches, weight_of_cases}
use Rattle.occ_syntax.specs.Declarations.{declaring_all}
use Rattle.occ_syntax.specs.View.{branches, cases, in_alternatives, in_choices, in_procs, tree, trees}
use Rattle.occ_norm_arrange.specs.FlatArranged.{IsBranch, IsChoice, IsPart, Pairwise}
use Rattle.occ_norm_arrange.proofs.walk.+walk.Given as goal

abbrev pub decreases-everywhere : goal.decreases-everywhere
decreases-everywhere l = 4 * weight (tree l.part.now) + 3

abbrev pub decreases-inside : goal.decreases-inside
decreases-inside l = 4 * weight (tree l.part.now) + 2

abbrev pub decreases-inside_and_front : goal.decreases-inside_and_front
decreases-inside_and_front l = 4 * weight (tree l.part.now) + 1

abbrev pub decreases-inside_body : goal.decreases-inside_body
decreases-inside_body l = 4 * weight (tree l.part.now)

abbrev pub decreases-parts_arranged : goal.decreases-parts_arranged
decreases-parts_arranged l = 4 * weight_of_all (trees l.parts.now)

abbrev pub decreases-choices_arranged : goal.decreases-choices_arranged
decreases-choices_arranged l = 4 * weight_of_cases (cases l.choices.now)

abbrev pub decreases-branches_arranged : goal.decreases-branches_arranged
decreases-branches_arranged l = 4 * weight_of_branches (branches l.alternatives.now)

-- the declarations so far, round the rest, are the whole
abbrev pub invariant-inside-loop-name : goal.invariant-inside-loop-name
invariant-inside-loop-name l = record {
  whole : declaring_all l.declarations (tree l.body) ≡ tree l.part;
  left : weight (tree l.body) ≤ weight (tree l.part);
}

abbrev pub decreases-inside-loop-name : goal.decreases-inside-loop-name
decreases-inside-loop-name l = weight (tree l.body)

-- those so far are arranged, if there is anything to change
abbrev pub invariant-parts_arranged-loop-place : goal.invariant-parts_arranged-loop-place
invariant-parts_arranged-loop-place l = IfSome l.found (λ r. Pairwise IsPart (take l.place l.parts) (in_procs r))

abbrev pub invariant-choices_arranged-loop-place : goal.invariant-choices_arranged-loop-place
invariant-choices_arranged-loop-place l = IfSome l.found (λ r. Pairwise IsChoice (take l.place l.choices) (in_choices r))

abbrev pub invariant-branches_arranged-loop-place : goal.invariant-branches_arranged-loop-place
invariant-branches_arranged-loop-place l = IfSome l.found (λ r. Pairwise IsBranch (take l.place l.alternatives) (in_alternatives r))
