use Rattle.std.proofs.Common.{◌≡◌, ◌+◌, ◌*◌, ◌^◌, ◌<◌, ◌≤◌, max, drop}
use Rattle.occ_syntax.specs.Counts.{capped}
use Rattle.occ_syntax.specs.View.{tree, trees, cases, branches}
use Rattle.occ_syntax.proofs.Weights.{weight, weight_of_all, weight_of_cases, weight_of_branches}
use Rattle.occ_print.proofs.Counting.{widest, widest_of_all, widest_of_cases, widest_of_branches}
use Rattle.occ_print.proofs.widest.+widest.Given as goal

abbrev pub decreases-line_tokens : goal.decreases-line_tokens
decreases-line_tokens l = 2 * weight (tree l.part.now) + 1

abbrev pub decreases-undeclared_tokens : goal.decreases-undeclared_tokens
decreases-undeclared_tokens l = 2 * weight (tree l.part.now)

abbrev pub decreases-tokens_of_all : goal.decreases-tokens_of_all
decreases-tokens_of_all l = 2 * weight_of_all (trees l.parts.now)

abbrev pub decreases-tokens_of_choices : goal.decreases-tokens_of_choices
decreases-tokens_of_choices l = 2 * weight_of_cases (cases l.choices.now)

abbrev pub decreases-tokens_of_alternatives : goal.decreases-tokens_of_alternatives
decreases-tokens_of_alternatives l = 2 * weight_of_branches (branches l.alternatives.now)

-- the most so far and that of the rest are the most of all
abbrev pub invariant-line_tokens-loop-kind : goal.invariant-line_tokens-loop-kind
invariant-line_tokens-loop-kind l = record {
  whole : max l.most (widest (tree l.rest)) ≡ widest (tree l.part);
  fits : l.most < 2 ^ 64;
  left : weight (tree l.rest) ≤ weight (tree l.part);
}

abbrev pub decreases-line_tokens-loop-kind : goal.decreases-line_tokens-loop-kind
decreases-line_tokens-loop-kind l = weight (tree l.rest)

abbrev pub invariant-tokens_of_all-loop-part : goal.invariant-tokens_of_all-loop-part
invariant-tokens_of_all-loop-part l = record {
  whole : capped (max l.most (widest_of_all (trees (drop l.part-index l.parts)))) ≡ capped (widest_of_all (trees l.parts));
  fits : l.most < 2 ^ 64;
}

abbrev pub invariant-tokens_of_choices-loop-condition : goal.invariant-tokens_of_choices-loop-condition
invariant-tokens_of_choices-loop-condition l = record {
  whole : capped (max l.most (widest_of_cases (cases (drop l.condition-index l.choices)))) ≡ capped (widest_of_cases (cases l.choices));
  fits : l.most < 2 ^ 64;
}

abbrev pub invariant-tokens_of_alternatives-loop-guard : goal.invariant-tokens_of_alternatives-loop-guard
invariant-tokens_of_alternatives-loop-guard l = record {
  whole : capped (max l.most (widest_of_branches (branches (drop l.guard-index l.alternatives)))) ≡ capped (widest_of_branches (branches l.alternatives));
  fits : l.most < 2 ^ 64;
}
