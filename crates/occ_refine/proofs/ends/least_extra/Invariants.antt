use Rattle.std.proofs.Common.{◌≡◌, ◌≤◌, ◌<◌, ◌-◌, ℕ, false}
use Rattle.occ_norm.specs.occ_compare.Places.{assignment_at}
use Rattle.occ_refine.specs.Rows.{is_extra}
use Rattle.occ_refine.proofs.ends.least_extra.Given as goal

abbrev pub invariant-states : goal.invariant-states
invariant-states l = record {
  within : l.number ≤ l.last;
  before : (k : ℕ) → k < l.number → is_extra l.store l.own l.other (assignment_at l.params k) ≡ false;
}

abbrev pub decreases-states : goal.decreases-states
decreases-states l = l.last - l.number
