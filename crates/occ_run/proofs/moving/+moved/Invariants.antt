use Rattle.std.proofs.Common.{◌≡◌, ◌+◌, ◌≤◌, true, length}
use Rattle.occ_run_steps.specs.Kept.{all_types_held}
use Rattle.occ_run_steps.specs.Settled.{all_are_settled, all_settled}
use Rattle.occ_run.specs.Effects.{applied_from, effect}
use Rattle.occ_run.specs.Places.{names_at, values_at}
use Rattle.occ_run.specs.View.{control, controls}
use Rattle.occ_run.proofs.Rows.{and_all}
use Rattle.occ_run.proofs.Sizes.{size, sizes}
use Rattle.occ_run.proofs.moving.+moved.Given as goal

abbrev pub decreases-moved : goal.decreases-moved
decreases-moved l = size (control l.control.now)

abbrev pub decreases-all_moved : goal.decreases-all_moved
decreases-all_moved l = sizes (controls l.parts.now)

-- the controls so far, and those of the others
abbrev pub invariant-all_moved-loop-rest : goal.invariant-all_moved-loop-rest
invariant-all_moved-loop-rest l = record {
  whole : and_all (controls l.all.items) (all_settled (names_at l.place) (values_at l.place) (applied_from l.index (controls l.rest) (effect l.effect)))
      ≡ all_settled (names_at l.place) (values_at l.place) (applied_from 0 (controls l.parts) (effect l.effect));
  kept : all_types_held (applied_from l.index (controls l.rest) (effect l.effect)) (names_at l.place) ≡ true;
  rests : all_are_settled (controls l.rest) ≡ true;
  less : sizes (controls l.rest) ≤ sizes (controls l.parts);
  counted : l.index + length l.rest ≡ length l.parts;
}

abbrev pub decreases-all_moved-loop-rest : goal.decreases-all_moved-loop-rest
decreases-all_moved-loop-rest l = length l.rest
