use Rattle.std.proofs.Common.{◌≡◌, ◌≤◌, ◌<◌, ◌-◌, ℕ}
use Rattle.occ_node.specs.occ_mdd.Maps.{value}
use Rattle.occ_compare.specs.Places.{assignment_at}
use Rattle.occ_compare.proofs.ends.least_start.Given as goal

abbrev pub invariant-loop-a : goal.invariant-loop-a
invariant-loop-a l = record {
  within : l.number ≤ l.last;
  before : (k : ℕ) → k < l.number → value l.world.maps l.a (assignment_at l.params k) ≡ value l.world.maps l.b (assignment_at l.params k);
}

abbrev pub decreases-loop-a : goal.decreases-loop-a
decreases-loop-a l = l.last - l.number
