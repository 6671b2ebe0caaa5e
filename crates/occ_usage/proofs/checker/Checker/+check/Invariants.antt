use Rattle.std.proofs.Common.{◌≡◌, ◌+◌, ◌*◌, ◌≤◌, length, take, drop}
use Rattle.occ_syntax.specs.View.{numbers, tree, trees, cases, branches}
use Rattle.occ_syntax.proofs.Weights.{weight, weight_of_all, weight_of_cases, weight_of_branches}
use Rattle.occ_usage.specs.Faults.{after, after_all, after_cases, after_branches, faults, faults_of_all, faults_of_cases, faults_of_branches, first}
use Rattle.occ_usage.proofs.checker.Checker.+check.Given as goal

abbrev pub decreases-part : goal.decreases-part
decreases-part l = 2 * weight (tree l.part.now) + 1

abbrev pub decreases-undeclared : goal.decreases-undeclared
decreases-undeclared l = 2 * weight (tree l.part.now)

abbrev pub decreases-parallel : goal.decreases-parallel
decreases-parallel l = 2 * weight_of_all (trees l.parts.now) + 1

abbrev pub decreases-parts : goal.decreases-parts
decreases-parts l = 2 * weight_of_all (trees l.parts.now)

abbrev pub decreases-choices : goal.decreases-choices
decreases-choices l = 2 * weight_of_cases (cases l.choices.now)

abbrev pub decreases-alternatives : goal.decreases-alternatives
decreases-alternatives l = 2 * weight_of_branches (branches l.alternatives.now)

-- the faults of the rest, with the numbers and the scope so far, are those of the whole
abbrev pub invariant-part-loop-name : goal.invariant-part-loop-name
invariant-part-loop-name l = record {
  found : faults (tree l.rest) l.self.next (numbers l.self.names.items) ≡ faults (tree l.part) l.fn.self.next (numbers l.fn.self.names.items);
  next : after (tree l.rest) l.self.next ≡ after (tree l.part) l.fn.self.next;
  names : take l.before l.self.names.items ≡ l.fn.self.names.items;
  longer : l.before ≤ length l.self.names.items;
  left : weight (tree l.rest) ≤ weight (tree l.part);
}

abbrev pub decreases-part-loop-name : goal.decreases-part-loop-name
decreases-part-loop-name l = weight (tree l.rest)

-- no part so far has a fault, so the first of the rest is that of all
abbrev pub invariant-parts-loop-part : goal.invariant-parts-loop-part
invariant-parts-loop-part l = record {
  found : first (faults_of_all (trees (drop l.part-index l.parts)) l.self.next (numbers l.fn.self.names.items)) ≡ first (faults_of_all (trees l.parts) l.fn.self.next (numbers l.fn.self.names.items));
  next : after_all (trees (drop l.part-index l.parts)) l.self.next ≡ after_all (trees l.parts) l.fn.self.next;
  names : l.self.names.items ≡ l.fn.self.names.items;
}

abbrev pub invariant-choices-loop-part : goal.invariant-choices-loop-part
invariant-choices-loop-part l = record {
  found : first (faults_of_cases (cases (drop l.part-index l.choices)) l.self.next (numbers l.fn.self.names.items)) ≡ first (faults_of_cases (cases l.choices) l.fn.self.next (numbers l.fn.self.names.items));
  next : after_cases (cases (drop l.part-index l.choices)) l.self.next ≡ after_cases (cases l.choices) l.fn.self.next;
  names : l.self.names.items ≡ l.fn.self.names.items;
}

abbrev pub invariant-alternatives-loop-part : goal.invariant-alternatives-loop-part
invariant-alternatives-loop-part l = record {
  found : first (faults_of_branches (branches (drop l.part-index l.alternatives)) l.self.next (numbers l.fn.self.names.items)) ≡ first (faults_of_branches (branches l.alternatives) l.fn.self.next (numbers l.fn.self.names.items));
  next : after_branches (branches (drop l.part-index l.alternatives)) l.self.next ≡ after_branches (branches l.alternatives) l.fn.self.next;
  names : l.self.names.items ≡ l.fn.self.names.items;
}
