use Rattle.std.proofs.Common.{◌≡◌, ◌+◌, ◌*◌, ◌≤◌, take}
use Rattle.std.specs.List.{sum_by}
use Rattle.occ_syntax.specs.declared.expr.Expr.{Expr}
use Rattle.occ_syntax.specs.declared.expr.Guard.{Guard}
use Rattle.occ_syntax.specs.declared.proc.Proc.{Proc}
use Rattle.occ_syntax.specs.View.{tree, trees, cases, branches}
use Rattle.occ_syntax.specs.Counts.{capped, controls}
use Rattle.occ_syntax.proofs.Weights.{weight, weight_of_all, weight_of_cases, weight_of_branches}
use Rattle.occ_syntax.proofs.counts.+controls.Given as goal

abbrev pub decreases-controls : goal.decreases-controls
decreases-controls l = 2 * weight (tree l.part.now) + 1

abbrev pub decreases-controls_of_one : goal.decreases-controls_of_one
decreases-controls_of_one l = 2 * weight (tree l.part.now)

abbrev pub decreases-controls_of_all : goal.decreases-controls_of_all
decreases-controls_of_all l = 2 * weight_of_all (trees l.parts.now)

abbrev pub decreases-controls_of_choices : goal.decreases-controls_of_choices
decreases-controls_of_choices l = 2 * weight_of_cases (cases l.choices.now)

abbrev pub decreases-controls_of_alternatives : goal.decreases-controls_of_alternatives
decreases-controls_of_alternatives l = 2 * weight_of_branches (branches l.alternatives.now)

-- what is counted and what is left to count are the whole
abbrev pub invariant-controls-loop-body : goal.invariant-controls-loop-body
invariant-controls-loop-body l = record {
  whole : capped (l.count + controls (tree l.rest)) ≡ capped (controls (tree l.part));
  left : weight (tree l.rest) ≤ weight (tree l.part);
}

abbrev pub decreases-controls-loop-body : goal.decreases-controls-loop-body
decreases-controls-loop-body l = weight (tree l.rest)

abbrev pub invariant-controls_of_all-loop-part : goal.invariant-controls_of_all-loop-part
invariant-controls_of_all-loop-part l = l.count ≡ capped (sum_by (λ p. controls (tree p)) (take l.part-index l.parts))

abbrev pub invariant-controls_of_choices-loop-part : goal.invariant-controls_of_choices-loop-part
invariant-controls_of_choices-loop-part l = l.count ≡ capped (sum_by (λ (c : Expr × Proc). 1 + controls (tree c.1)) (take l.part-index l.choices))

abbrev pub invariant-controls_of_alternatives-loop-part : goal.invariant-controls_of_alternatives-loop-part
invariant-controls_of_alternatives-loop-part l = l.count ≡ capped (sum_by (λ (b : Guard × Proc). 1 + controls (tree b.1)) (take l.part-index l.alternatives))
