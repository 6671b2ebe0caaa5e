use Rattle.std.proofs.Common.{◌≡◌, ◌+◌, ◌*◌, ◌≤◌, map, take}
use Rattle.occ_syntax.specs.Declarations.{declaring_all}
use Rattle.occ_syntax.specs.View.{tree, trees, cases, branches, in_procs, in_choices, in_alternatives}
use Rattle.occ_syntax.proofs.Weights.{weight, weight_of_all, weight_of_cases, weight_of_branches}
use Rattle.occ_syntax.proofs.Rows.{choice, alternative}
use Rattle.occ_syntax.proofs.proc.+copy.Given as goal

abbrev pub decreases-Proc::copy : goal.decreases-Proc::copy
decreases-Proc::copy l = 2 * weight (tree l.self.now) + 1

abbrev pub decreases-Proc::copy_undeclared : goal.decreases-Proc::copy_undeclared
decreases-Proc::copy_undeclared l = 2 * weight (tree l.self.now)

abbrev pub decreases-Procs::copy : goal.decreases-Procs::copy
decreases-Procs::copy l = 2 * weight_of_all (trees (in_procs l.self.now))

abbrev pub decreases-Choices::copy : goal.decreases-Choices::copy
decreases-Choices::copy l = 2 * weight_of_cases (cases (in_choices l.self.now))

abbrev pub decreases-Alternatives::copy : goal.decreases-Alternatives::copy
decreases-Alternatives::copy l = 2 * weight_of_branches (branches (in_alternatives l.self.now))

-- the declarations so far, round the rest, are the whole
abbrev pub invariant-Proc::copy-loop-name : goal.invariant-Proc::copy-loop-name
invariant-Proc::copy-loop-name l = record {
  whole : declaring_all l.declarations (tree l.rest) ≡ tree l.self;
  left : weight (tree l.rest) ≤ weight (tree l.self);
}

abbrev pub decreases-Proc::copy-loop-name : goal.decreases-Proc::copy-loop-name
decreases-Proc::copy-loop-name l = weight (tree l.rest)

-- the copy is that of the items so far
abbrev pub invariant-Procs::copy-loop-part : goal.invariant-Procs::copy-loop-part
invariant-Procs::copy-loop-part l = map tree (in_procs l.copy) ≡ map tree (take l.part-index l.part-items)

abbrev pub invariant-Choices::copy-loop-condition : goal.invariant-Choices::copy-loop-condition
invariant-Choices::copy-loop-condition l = map choice (in_choices l.copy) ≡ map choice (take l.condition-index l.condition-items)

abbrev pub invariant-Alternatives::copy-loop-guard : goal.invariant-Alternatives::copy-loop-guard
invariant-Alternatives::copy-loop-guard l = map alternative (in_alternatives l.copy) ≡ map alternative (take l.guard-index l.guard-items)
