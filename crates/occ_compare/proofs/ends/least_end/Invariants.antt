use Rattle.std.proofs.Common.{◌≡◌, ◌≤◌, ◌<◌, ◌-◌, ℕ}
use Rattle.occ_bits.specs.occ_dd.Store.{has}
use Rattle.occ_compare.specs.Places.{assignment_at}
use Rattle.occ_compare.proofs.ends.least_end.Given as goal

abbrev pub invariant-loop-only : goal.invariant-loop-only
invariant-loop-only l = record {
  within : l.number ≤ l.last;
  before : (k : ℕ) → k < l.number → has l.store l.a (assignment_at l.params k) ≡ has l.store l.b (assignment_at l.params k);
}

abbrev pub decreases-loop-only : goal.decreases-loop-only
decreases-loop-only l = l.last - l.number
