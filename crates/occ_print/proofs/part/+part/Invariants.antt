use Rattle.std.proofs.Common.{◌≡◌, ◌++◌, ◌+◌, ◌*◌, ◌≤◌, drop}
use Rattle.occ_syntax.specs.View.{tree, trees, cases, branches}
use Rattle.occ_syntax.proofs.Weights.{weight, weight_of_all, weight_of_cases, weight_of_branches}
use Rattle.occ_print.specs.Known.{LinesAreKnown}
use Rattle.occ_print.specs.Levels.{level_of}
use Rattle.occ_print.specs.Lines.{part_lines, all_lines, case_lines, branch_lines}
use Rattle.occ_print.specs.Spelled.{lines_text}
use Rattle.occ_print.proofs.part.+part.Given as goal

abbrev pub decreases-push_part : goal.decreases-push_part
decreases-push_part l = 2 * weight (tree l.part.now) + 1

abbrev pub decreases-push_undeclared : goal.decreases-push_undeclared
decreases-push_undeclared l = 2 * weight (tree l.part.now)

abbrev pub decreases-push_all : goal.decreases-push_all
decreases-push_all l = 2 * weight_of_all (trees l.parts.now)

abbrev pub decreases-push_choices : goal.decreases-push_choices
decreases-push_choices l = 2 * weight_of_cases (cases l.choices.now)

abbrev pub decreases-push_alternatives : goal.decreases-push_alternatives
decreases-push_alternatives l = 2 * weight_of_branches (branches l.alternatives.now)

-- the text so far, with that of what is left, is the whole
abbrev pub invariant-push_part-loop-name : goal.invariant-push_part-loop-name
invariant-push_part-loop-name l = record {
  whole : l.text.items ++ lines_text l.names (part_lines (level_of l.level) (tree l.rest)) ≡ l.fn.text.items ++ lines_text l.names (part_lines (level_of l.level) (tree l.part));
  known : LinesAreKnown l.names (part_lines (level_of l.level) (tree l.rest));
  left : weight (tree l.rest) ≤ weight (tree l.part);
}

abbrev pub decreases-push_part-loop-name : goal.decreases-push_part-loop-name
decreases-push_part-loop-name l = weight (tree l.rest)

abbrev pub invariant-push_all-loop-part : goal.invariant-push_all-loop-part
invariant-push_all-loop-part l = record {
  whole : l.text.items ++ lines_text l.names (all_lines (level_of l.level) (trees (drop l.part-index l.parts))) ≡ l.fn.text.items ++ lines_text l.names (all_lines (level_of l.level) (trees l.parts));
  known : LinesAreKnown l.names (all_lines (level_of l.level) (trees (drop l.part-index l.parts)));
}

abbrev pub invariant-push_choices-loop-condition : goal.invariant-push_choices-loop-condition
invariant-push_choices-loop-condition l = record {
  whole : l.text.items ++ lines_text l.names (case_lines (level_of l.level) (cases (drop l.condition-index l.choices))) ≡ l.fn.text.items ++ lines_text l.names (case_lines (level_of l.level) (cases l.choices));
  known : LinesAreKnown l.names (case_lines (level_of l.level) (cases (drop l.condition-index l.choices)));
}

abbrev pub invariant-push_alternatives-loop-guard : goal.invariant-push_alternatives-loop-guard
invariant-push_alternatives-loop-guard l = record {
  whole : l.text.items ++ lines_text l.names (branch_lines (level_of l.level) (branches (drop l.guard-index l.alternatives))) ≡ l.fn.text.items ++ lines_text l.names (branch_lines (level_of l.level) (branches l.alternatives));
  known : LinesAreKnown l.names (branch_lines (level_of l.level) (branches (drop l.guard-index l.alternatives)));
}
