use Rattle.std.proofs.Common.{◌≡◌, ◌↔◌, ◌+◌, ◌*◌, ◌≤◌, map, length, take}
use Rattle.occ_syntax.specs.View.{tree, trees, cases, branches}
use Rattle.occ_syntax.proofs.Weights.{weight, weight_of_all, weight_of_cases, weight_of_branches}
use Rattle.occ_syntax.proofs.Rows.{choice, alternative}
use Rattle.occ_syntax.proofs.same.+same_proc.Given as goal

abbrev pub decreases-same_proc : goal.decreases-same_proc
decreases-same_proc l = 2 * weight (tree l.left.now) + 1

abbrev pub decreases-same_undeclared : goal.decreases-same_undeclared
decreases-same_undeclared l = 2 * weight (tree l.left.now)

abbrev pub decreases-same_procs : goal.decreases-same_procs
decreases-same_procs l = 2 * weight_of_all (trees l.left.now)

abbrev pub decreases-same_choices : goal.decreases-same_choices
decreases-same_choices l = 2 * weight_of_cases (cases l.left.now)

abbrev pub decreases-same_branches : goal.decreases-same_branches
decreases-same_branches l = 2 * weight_of_branches (branches l.left.now)

-- the declarations so far are the same
abbrev pub invariant-same_proc-loop-name : goal.invariant-same_proc-loop-name
invariant-same_proc-loop-name l = record {
  same : (tree l.rest ≡ tree l.other) ↔ (tree l.left ≡ tree l.right);
  left : weight (tree l.rest) ≤ weight (tree l.left);
}

abbrev pub decreases-same_proc-loop-name : goal.decreases-same_proc-loop-name
decreases-same_proc-loop-name l = weight (tree l.rest)

-- the parts so far are the same
abbrev pub invariant-same_procs-loop-part : goal.invariant-same_procs-loop-part
invariant-same_procs-loop-part l = map tree (take (length l.yielded) l.left) ≡ map tree (take (length l.yielded) l.right)

abbrev pub invariant-same_choices-loop-choice : goal.invariant-same_choices-loop-choice
invariant-same_choices-loop-choice l = map choice (take (length l.yielded) l.left) ≡ map choice (take (length l.yielded) l.right)

abbrev pub invariant-same_branches-loop-alternative : goal.invariant-same_branches-loop-alternative
invariant-same_branches-loop-alternative l = map alternative (take (length l.yielded) l.left) ≡ map alternative (take (length l.yielded) l.right)
