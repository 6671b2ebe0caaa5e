use Rattle.std.proofs.Common.{drop}
use Rattle.occ_syntax.specs.View.{tree, trees, cases, branches}
use Rattle.occ_syntax.proofs.Weights.{weight, weight_of_all, weight_of_cases, weight_of_branches}
use Rattle.occ_gen.specs.occ_print.Known.{PartsAreKnown, CasesAreKnown, BranchesAreKnown}
use Rattle.occ_core_tests.proofs.tests.known.+known.Given as goal

abbrev pub decreases-part_below : goal.decreases-part_below
decreases-part_below l = weight (tree l.part.now)

abbrev pub decreases-parts_below : goal.decreases-parts_below
decreases-parts_below l = weight_of_all (trees l.parts.now)

abbrev pub decreases-choices_below : goal.decreases-choices_below
decreases-choices_below l = weight_of_cases (cases l.choices.now)

abbrev pub decreases-alternatives_below : goal.decreases-alternatives_below
decreases-alternatives_below l = weight_of_branches (branches l.alternatives.now)

-- where what is left is known, all is
abbrev pub invariant-parts_below-loop-part : goal.invariant-parts_below-loop-part
invariant-parts_below-loop-part l = PartsAreKnown l.count (trees (drop l.part-index l.parts)) → PartsAreKnown l.count (trees l.parts)

abbrev pub invariant-choices_below-loop-condition : goal.invariant-choices_below-loop-condition
invariant-choices_below-loop-condition l = CasesAreKnown l.count (cases (drop l.condition-index l.choices)) → CasesAreKnown l.count (cases l.choices)

abbrev pub invariant-alternatives_below-loop-guard : goal.invariant-alternatives_below-loop-guard
invariant-alternatives_below-loop-guard l = BranchesAreKnown l.count (branches (drop l.guard-index l.alternatives)) → BranchesAreKnown l.count (branches l.alternatives)
