use Rattle.std.proofs.Common.{◌≡◌, ◌≤◌, true, length}
use Rattle.occ_syntax.proofs.Weights.{weight, weight_of_all, weight_of_cases}
use Rattle.occ_syntax.specs.Types.{all_types_kept, cases_kept}
use Rattle.occ_syntax.specs.View.{cases, tree, trees}
use Rattle.occ_run_steps.specs.Settled.{begun_all, begun_choice, begun_turn}
use Rattle.occ_run.specs.Places.{names_at, values_at}
use Rattle.occ_run.specs.View.{controls}
use Rattle.occ_run.proofs.Rows.{and_all}
use Rattle.occ_run.proofs.settle.+begun.Given as goal

abbrev pub decreases-begun : goal.decreases-begun
decreases-begun l = weight (tree l.part.now)

abbrev pub decreases-begun_turn : goal.decreases-begun_turn
decreases-begun_turn l = weight_of_all (trees l.parts.now)

abbrev pub decreases-begun_all : goal.decreases-begun_all
decreases-begun_all l = weight_of_all (trees l.parts.now)

abbrev pub decreases-begun_choice : goal.decreases-begun_choice
decreases-begun_choice l = weight_of_cases (cases l.choices.now)

-- the processes in front have come to nothing
abbrev pub invariant-begun_turn-loop-rest : goal.invariant-begun_turn-loop-rest
invariant-begun_turn-loop-rest l = record {
  whole : begun_turn (names_at l.place) (values_at l.place) (trees l.rest) ≡ begun_turn (names_at l.place) (values_at l.place) (trees l.parts);
  kept : all_types_kept (trees l.rest) (names_at l.place) ≡ true;
  less : weight_of_all (trees l.rest) ≤ weight_of_all (trees l.parts);
}

abbrev pub decreases-begun_turn-loop-rest : goal.decreases-begun_turn-loop-rest
decreases-begun_turn-loop-rest l = length l.rest

-- the controls so far, and those of the others
abbrev pub invariant-begun_all-loop-rest : goal.invariant-begun_all-loop-rest
invariant-begun_all-loop-rest l = record {
  whole : and_all (controls l.controls.items) (begun_all (names_at l.place) (values_at l.place) (trees l.rest)) ≡ begun_all (names_at l.place) (values_at l.place) (trees l.parts);
  kept : all_types_kept (trees l.rest) (names_at l.place) ≡ true;
  less : weight_of_all (trees l.rest) ≤ weight_of_all (trees l.parts);
}

abbrev pub decreases-begun_all-loop-rest : goal.decreases-begun_all-loop-rest
decreases-begun_all-loop-rest l = length l.rest

-- no condition in front is true
abbrev pub invariant-begun_choice-loop-rest : goal.invariant-begun_choice-loop-rest
invariant-begun_choice-loop-rest l = record {
  whole : begun_choice (names_at l.place) (values_at l.place) (cases l.rest) ≡ begun_choice (names_at l.place) (values_at l.place) (cases l.choices);
  kept : cases_kept (cases l.rest) (names_at l.place) ≡ true;
  less : weight_of_cases (cases l.rest) ≤ weight_of_cases (cases l.choices);
}

abbrev pub decreases-begun_choice-loop-rest : goal.decreases-begun_choice-loop-rest
decreases-begun_choice-loop-rest l = length l.rest
