use Rattle.std.proofs.Common.{◌≡◌, true, length}
use Rattle.occ_syntax.specs.Types.{branches_kept}
use Rattle.occ_syntax.specs.View.{branches}
use Rattle.occ_run_steps.specs.Steps.{branch_steps}
use Rattle.occ_run.specs.declared.found.Found.{Found}
use Rattle.occ_run.specs.Founds.{IsAt, asked, leaves}
use Rattle.occ_run.specs.Places.{names_at, values_at}
use Rattle.occ_run.proofs.found.branch_found.Given as goal

-- what stands there among the steps of the other guards stands there among all
abbrev pub invariant-loop-rest : goal.invariant-loop-rest
invariant-loop-rest l = record {
  whole : (r : Found) → IsAt (asked l.wanted.hidden.now l.wanted.only (leaves (branch_steps (names_at l.place) (values_at l.place) (branches l.rest)))) l.number r
      → IsAt (asked l.wanted.hidden.now l.wanted.only (leaves (branch_steps (names_at l.place) (values_at l.place) (branches l.alternatives)))) l.wanted.number r;
  kept : branches_kept (branches l.rest) (names_at l.place) ≡ true;
}

abbrev pub decreases-loop-rest : goal.decreases-loop-rest
decreases-loop-rest l = length l.rest
