use Rattle.std.proofs.Common.{◌∙◌}
use Rattle.std.specs.Cmp.Lexicographic.{slice_cmp}
use Rattle.occ_node.specs.occ_accept.Order.{event_cmp}
use Rattle.occ_node.proofs.from_accept.Sets.{cmp_same}
use Rattle.occ_compare.proofs.sets.set_order.Goals as goal

pub returns : goal.returns
returns c = c.cmp.ensures ∙ (λ i. slice_cmp (cmp_same i) (c.items.ensures.items i) (c.items-2.ensures.items i))
