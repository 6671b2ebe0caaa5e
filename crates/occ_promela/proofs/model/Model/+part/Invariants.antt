use Rattle.std.proofs.Common.{◌+◌, ◌*◌, ◌≤◌}
use Rattle.occ_syntax.specs.View.{tree, trees, cases, branches}
use Rattle.occ_syntax.proofs.Weights.{weight, weight_of_all, weight_of_cases, weight_of_branches}
use Rattle.occ_promela.proofs.model.Model.+part.Given as goal

abbrev pub decreases-put_part : goal.decreases-put_part
decreases-put_part l = 4 * weight (tree l.part.now) + 1

abbrev pub decreases-put_undeclared : goal.decreases-put_undeclared
decreases-put_undeclared l = 4 * weight (tree l.part.now)

abbrev pub decreases-put_process : goal.decreases-put_process
decreases-put_process l = 4 * weight (tree l.part.now) + 2

abbrev pub decreases-put_row : goal.decreases-put_row
decreases-put_row l = 4 * weight_of_all (trees l.parts.now)

abbrev pub decreases-put_par : goal.decreases-put_par
decreases-put_par l = 4 * weight_of_all (trees l.parts.now)

abbrev pub decreases-put_choices : goal.decreases-put_choices
decreases-put_choices l = 4 * weight_of_cases (cases l.choices.now)

abbrev pub decreases-put_branches : goal.decreases-put_branches
decreases-put_branches l = 4 * weight_of_branches (branches l.branches.now)

abbrev pub invariant-put_part-loop-name : goal.invariant-put_part-loop-name
invariant-put_part-loop-name l = weight (tree l.rest) ≤ weight (tree l.part)

abbrev pub decreases-put_part-loop-name : goal.decreases-put_part-loop-name
decreases-put_part-loop-name l = weight (tree l.rest)
