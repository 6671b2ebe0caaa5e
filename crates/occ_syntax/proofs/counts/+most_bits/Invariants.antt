use Rattle.std.proofs.Common.{◌≡◌, ◌+◌, ◌*◌, ◌^◌, ◌<◌, ◌≤◌, max, drop}
use Rattle.occ_syntax.specs.View.{tree, trees, cases, branches}
use Rattle.occ_syntax.specs.Counts.{capped, most_bits, most_bits_of_all, most_bits_of_cases, most_bits_of_branches}
use Rattle.occ_syntax.proofs.Weights.{weight, weight_of_all, weight_of_cases, weight_of_branches}
use Rattle.occ_syntax.proofs.counts.+most_bits.Given as goal

abbrev pub decreases-most_bits : goal.decreases-most_bits
decreases-most_bits l = 2 * weight (tree l.part.now) + 1

abbrev pub decreases-most_bits_of_one : goal.decreases-most_bits_of_one
decreases-most_bits_of_one l = 2 * weight (tree l.part.now)

abbrev pub decreases-most_bits_of_all : goal.decreases-most_bits_of_all
decreases-most_bits_of_all l = 2 * weight_of_all (trees l.parts.now)

abbrev pub decreases-most_bits_of_choices : goal.decreases-most_bits_of_choices
decreases-most_bits_of_choices l = 2 * weight_of_cases (cases l.choices.now)

abbrev pub decreases-most_bits_of_alternatives : goal.decreases-most_bits_of_alternatives
decreases-most_bits_of_alternatives l = 2 * weight_of_branches (branches l.alternatives.now)

-- the rest within the bits so far is the whole within those outside
abbrev pub invariant-most_bits-loop-kind : goal.invariant-most_bits-loop-kind
invariant-most_bits-loop-kind l = record {
  whole : capped (most_bits (tree l.rest) l.bits) ≡ capped (most_bits (tree l.part) l.outer);
  left : weight (tree l.rest) ≤ weight (tree l.part);
}

abbrev pub decreases-most_bits-loop-kind : goal.decreases-most_bits-loop-kind
decreases-most_bits-loop-kind l = weight (tree l.rest)

-- the most so far and that of the parts that are left are the most of all
abbrev pub invariant-most_bits_of_all-loop-part : goal.invariant-most_bits_of_all-loop-part
invariant-most_bits_of_all-loop-part l = record {
  whole : capped (max l.most (most_bits_of_all (trees (drop l.part-index l.parts)) l.outer)) ≡ capped (most_bits_of_all (trees l.parts) l.outer);
  at_least : l.outer ≤ l.most;
  fits : l.most < 2 ^ 64;
}

abbrev pub invariant-most_bits_of_choices-loop-part : goal.invariant-most_bits_of_choices-loop-part
invariant-most_bits_of_choices-loop-part l = record {
  whole : capped (max l.most (most_bits_of_cases (cases (drop l.part-index l.choices)) l.outer)) ≡ capped (most_bits_of_cases (cases l.choices) l.outer);
  at_least : l.outer ≤ l.most;
  fits : l.most < 2 ^ 64;
}

abbrev pub invariant-most_bits_of_alternatives-loop-part : goal.invariant-most_bits_of_alternatives-loop-part
invariant-most_bits_of_alternatives-loop-part l = record {
  whole : capped (max l.most (most_bits_of_branches (branches (drop l.part-index l.alternatives)) l.outer)) ≡ capped (most_bits_of_branches (branches l.alternatives) l.outer);
  at_least : l.outer ≤ l.most;
  fits : l.most < 2 ^ 64;
}
