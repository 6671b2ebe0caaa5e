use Rattle.std.proofs.Common.{length, drop, ◌-◌, ◌+◌, ◌≤◌, ◌≡◌}
use Rattle.std.specs.List.{prefix_len}
use Rattle.std.specs.Ordering.{is_lt}
use Rattle.std.specs.Cmp.Lexicographic.{slice_cmp}
use Rattle.occ_accept.specs.Order.{event_cmp}
use Rattle.occ_accept.proofs.antichain.place.Given as goal

abbrev pub invariant-loop-place : goal.invariant-loop-place
invariant-loop-place l =
    (l.place ≤ length l.sets)
    × (prefix_len (λ kept. is_lt (slice_cmp event_cmp kept l.set)) l.sets ≡ l.place + prefix_len (λ kept. is_lt (slice_cmp event_cmp kept l.set)) (drop l.place l.sets))

abbrev pub decreases-loop-place : goal.decreases-loop-place
decreases-loop-place l = length l.sets - l.place
