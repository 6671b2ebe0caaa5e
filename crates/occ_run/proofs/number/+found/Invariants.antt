use Rattle.std.proofs.Common.{◌≡◌, ◌+◌, ◌*◌, ◌≤◌, true, length}
use Rattle.occ_run_steps.specs.Kept.{all_types_held}
use Rattle.occ_run.specs.declared.found.Found.{Found}
use Rattle.occ_run.specs.Effects.{alone_of}
use Rattle.occ_run.specs.Founds.{IsAt, asked, each_effects}
use Rattle.occ_run.specs.Places.{names_at, values_at}
use Rattle.occ_run.specs.View.{control, controls}
use Rattle.occ_run.proofs.Sizes.{size, sizes}
use Rattle.occ_run.proofs.number.+found.Given as goal

abbrev pub decreases-found : goal.decreases-found
decreases-found l = 3 * size (control l.control.now)

abbrev pub decreases-alone_found : goal.decreases-alone_found
decreases-alone_found l = 3 * sizes (controls l.parts.now)

abbrev pub decreases-pair_asked : goal.decreases-pair_asked
decreases-pair_asked l = 2 + 3 * sizes (controls l.parts.now)

abbrev pub decreases-pair_found : goal.decreases-pair_found
decreases-pair_found l = 1 + 3 * sizes (controls l.parts.now)

abbrev pub decreases-part_found : goal.decreases-part_found
decreases-part_found l = 1 + 3 * size (control l.control.now)

-- what stands there among the steps of the others alone stands there among all
abbrev pub invariant-alone_found-loop-rest : goal.invariant-alone_found-loop-rest
invariant-alone_found-loop-rest l = record {
  whole : (r : Found) → IsAt (asked l.wanted.hidden.now l.wanted.only (alone_of l.index (each_effects (names_at l.place) (values_at l.place) (controls l.rest)))) l.number r
      → IsAt (asked l.wanted.hidden.now l.wanted.only (alone_of 0 (each_effects (names_at l.place) (values_at l.place) (controls l.parts)))) l.wanted.number r;
  kept : all_types_held (controls l.rest) (names_at l.place) ≡ true;
  less : sizes (controls l.rest) ≤ sizes (controls l.parts);
  counted : l.index + length l.rest ≡ length l.parts;
}

abbrev pub decreases-alone_found-loop-rest : goal.decreases-alone_found-loop-rest
decreases-alone_found-loop-rest l = length l.rest
