use Rattle.std.proofs.Common.{◌≡◌, ◌++◌, ◌+◌, ◌*◌, ◌≤◌, length, take, drop}
use Rattle.occ_syntax.specs.View.{tree, trees, cases, branches}
use Rattle.occ_syntax.proofs.Weights.{weight, weight_of_all, weight_of_cases, weight_of_branches}
use Rattle.occ_names.specs.Mentions.{outside, mentions, mentions_of_all, mentions_of_cases, mentions_of_branches}
use Rattle.occ_names.proofs.collect.Collector.+collect.Given as goal

abbrev pub decreases-part : goal.decreases-part
decreases-part l = 2 * weight (tree l.part.now) + 1

abbrev pub decreases-undeclared : goal.decreases-undeclared
decreases-undeclared l = 2 * weight (tree l.part.now)

abbrev pub decreases-parts : goal.decreases-parts
decreases-parts l = 2 * weight_of_all (trees l.parts.now)

abbrev pub decreases-choices : goal.decreases-choices
decreases-choices l = 2 * weight_of_cases (cases l.choices.now)

abbrev pub decreases-alternatives : goal.decreases-alternatives
decreases-alternatives l = 2 * weight_of_branches (branches l.alternatives.now)

-- what was found and what the rest has under the declarations so far are the whole
abbrev pub invariant-part-loop-name : goal.invariant-part-loop-name
invariant-part-loop-name l = record {
  found : l.self.found ++ outside l.self.bound (mentions (tree l.rest)) ≡ l.fn.self.found ++ outside l.fn.self.bound (mentions (tree l.part));
  bound : take l.before l.self.bound ≡ l.fn.self.bound;
  longer : l.before ≤ length l.self.bound;
  left : weight (tree l.rest) ≤ weight (tree l.part);
}

abbrev pub decreases-part-loop-name : goal.decreases-part-loop-name
decreases-part-loop-name l = weight (tree l.rest)

abbrev pub invariant-parts-loop-part : goal.invariant-parts-loop-part
invariant-parts-loop-part l = record {
  found : l.self.found ++ outside l.fn.self.bound (mentions_of_all (trees (drop l.part-index l.parts))) ≡ l.fn.self.found ++ outside l.fn.self.bound (mentions_of_all (trees l.parts));
  bound : l.self.bound ≡ l.fn.self.bound;
}

abbrev pub invariant-choices-loop-condition : goal.invariant-choices-loop-condition
invariant-choices-loop-condition l = record {
  found : l.self.found ++ outside l.fn.self.bound (mentions_of_cases (cases (drop l.condition-index l.choices))) ≡ l.fn.self.found ++ outside l.fn.self.bound (mentions_of_cases (cases l.choices));
  bound : l.self.bound ≡ l.fn.self.bound;
}

abbrev pub invariant-alternatives-loop-guard : goal.invariant-alternatives-loop-guard
invariant-alternatives-loop-guard l = record {
  found : l.self.found ++ outside l.fn.self.bound (mentions_of_branches (branches (drop l.guard-index l.alternatives))) ≡ l.fn.self.found ++ outside l.fn.self.bound (mentions_of_branches (branches l.alternatives));
  bound : l.self.bound ≡ l.fn.self.bound;
}
