use Rattle.std.proofs.Common.{◌≡◌, ◌≤◌, ◌<◌, ◌-◌, ℕ, false}
use Rattle.occ_refine.specs.occ_compare.Places.{assignment_at}
use Rattle.occ_traces.specs.Choosers.{is_end}
use Rattle.occ_traces.proofs.choices.least_end.Given as goal

abbrev pub invariant-states : goal.invariant-states
invariant-states l = record {
  within : l.number ≤ l.last;
  before : (k : ℕ) → k < l.number → is_end l.world l.node l.but (assignment_at l.params k) ≡ false;
}

abbrev pub decreases-states : goal.decreases-states
decreases-states l = l.last - l.number
