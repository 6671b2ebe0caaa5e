use Rattle.std.proofs.Common.{◌*◌, ◌+◌, ◌≤◌, drop}
use Rattle.occ_syntax.proofs.Weights.{weight, weight_of_all, weight_of_branches, weight_of_cases}
use Rattle.occ_syntax.specs.View.{branches, cases, tree, trees}
use Rattle.occ_norm_arrange.specs.Declares.{branches_declare, cases_declare, declares, some_declare}
use Rattle.occ_norm_arrange.proofs.Noting.{Opened}
use Rattle.occ_norm_arrange.proofs.declared.+note.Given as goal

abbrev pub decreases-note_declared : goal.decreases-note_declared
decreases-note_declared l = 2 * weight (tree l.part.now) + 1

abbrev pub decreases-note_undeclared : goal.decreases-note_undeclared
decreases-note_undeclared l = 2 * weight (tree l.part.now)

abbrev pub decreases-note_parts : goal.decreases-note_parts
decreases-note_parts l = 2 * weight_of_all (trees l.parts.now)

abbrev pub decreases-note_choices : goal.decreases-note_choices
decreases-note_choices l = 2 * weight_of_cases (cases l.choices.now)

abbrev pub decreases-note_branches : goal.decreases-note_branches
decreases-note_branches l = 2 * weight_of_branches (branches l.alternatives.now)

-- the names so far, and those of the rest, are the names of the whole
abbrev pub invariant-note_declared-loop-name : goal.invariant-note_declared-loop-name
invariant-note_declared-loop-name l = record {
  opened : Opened l.initial.names (declares (tree l.part)) l.names (declares (tree l.body));
  left : weight (tree l.body) ≤ weight (tree l.part);
}

abbrev pub decreases-note_declared-loop-name : goal.decreases-note_declared-loop-name
decreases-note_declared-loop-name l = weight (tree l.body)

abbrev pub invariant-note_parts-loop-part : goal.invariant-note_parts-loop-part
invariant-note_parts-loop-part l = Opened l.initial.names (some_declare (trees l.parts)) l.names (some_declare (trees (drop l.part-index l.parts)))

abbrev pub invariant-note_choices-loop-part : goal.invariant-note_choices-loop-part
invariant-note_choices-loop-part l = Opened l.initial.names (cases_declare (cases l.choices)) l.names (cases_declare (cases (drop l.part-index l.choices)))

abbrev pub invariant-note_branches-loop-part : goal.invariant-note_branches-loop-part
invariant-note_branches-loop-part l = Opened l.initial.names (branches_declare (branches l.alternatives)) l.names (branches_declare (branches (drop l.part-index l.alternatives)))
