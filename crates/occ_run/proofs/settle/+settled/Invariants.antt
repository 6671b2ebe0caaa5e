use Rattle.std.proofs.Common.{◌≡◌, ◌≤◌, true, length}
use Rattle.occ_run_steps.specs.Kept.{all_types_held}
use Rattle.occ_run_steps.specs.Settled.{all_settled}
use Rattle.occ_run.specs.Places.{names_at, values_at}
use Rattle.occ_run.specs.View.{control, controls}
use Rattle.occ_run.proofs.Rows.{and_all}
use Rattle.occ_run.proofs.Sizes.{size, sizes}
use Rattle.occ_run.proofs.settle.+settled.Given as goal

abbrev pub decreases-settled : goal.decreases-settled
decreases-settled l = size (control l.control.now)

abbrev pub decreases-all_settled : goal.decreases-all_settled
decreases-all_settled l = sizes (controls l.parts.now)

-- the controls so far, and those of the others
abbrev pub invariant-all_settled-loop-rest : goal.invariant-all_settled-loop-rest
invariant-all_settled-loop-rest l = record {
  whole : and_all (controls l.all.items) (all_settled (names_at l.place) (values_at l.place) (controls l.rest)) ≡ all_settled (names_at l.place) (values_at l.place) (controls l.parts);
  kept : all_types_held (controls l.rest) (names_at l.place) ≡ true;
  less : sizes (controls l.rest) ≤ sizes (controls l.parts);
}

abbrev pub decreases-all_settled-loop-rest : goal.decreases-all_settled-loop-rest
decreases-all_settled-loop-rest l = length l.rest
