use Rattle.std.proofs.Common.{◌∙◌}
use Rattle.std.specs.Cmp.Lexicographic.{slice_cmp}
use Rattle.std.specs.Ordering.{is_lt}
use Rattle.occ_accept.specs.Order.{event_cmp}
use Rattle.occ_accept.proofs.Events.{less_is_cmp}
use Rattle.occ_accept.proofs.set.AcceptSet.goes_before.Goals as goal

pub returns : goal.returns
returns c = c.lt.ensures ∙ less_is_cmp c.items.result.now c.items-2.result.now ∙ (λ i. is_lt (slice_cmp event_cmp (c.items.ensures.items i) (c.items-2.ensures.items i)))
