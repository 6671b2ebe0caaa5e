use Rattle.occ_examples.proofs.behaviours.a_ready_guard_may_be_passed_over.Goals as goal
use Rattle.occ_law.specs.occ_syntax.Meaning.{at_event, at_ready, taken}
use Rattle.occ_law.specs.occ_syntax.Scopes.{with_value}
use Rattle.occ_examples.proofs.Beginnings.{never_refuses}
use Rattle.occ_examples.specs.Programs.{holding, x}
use Rattle.std.proofs.Common.{[], inl, inr, refl}

pub returns : goal.returns
returns given = (
  record { last = holding 0 0; ends = taken (inr (inl (refl, (holding 0 0, [], at_ready, (refl, refl))))); of_x = refl; of_y = refl },
  (
    record {
      last = with_value (holding 0 0) x 3;
      ends = taken (inl (refl, (with_value (holding 0 0) x 3, [], at_event (3, refl, refl, refl), (refl, refl))));
      of_x = refl;
      of_y = refl;
    },
    λ X h. never_refuses (holding 0 0) [] X h refl,
  ),
)
