use Rattle.std.proofs.Common.{subst}
use Rattle.occ_meaning.specs.Parallel.{EachWritesApart}
use Rattle.occ_norm_arrange.proofs.Alike.{added_alike}
use Rattle.occ_norm_arrange.proofs.Orders.{arranged_from}
use Rattle.occ_norm_arrange.specs.FlatArranged.{AddsAll}
use Rattle.occ_syntax.specs.View.{in_procs, trees}
use Rattle.occ_norm_arrange.proofs.order.rearranged.Goals as goal

pub returns : goal.returns
returns c =
    arranged_from (trees c.args.parts.now) (trees c.add_parts.new.list.items) (trees (in_procs c.in_ok-sorted.sorted))
    (added_alike (trees c.args.parts.now) (trees c.add_parts.new.list.items)
    (subst (λ xs. AddsAll (trees xs) (trees c.args.parts.now) (trees c.add_parts.new.list.items)) c.new-list.ensures.items c.in_ok-add_parts.ensures))
    (subst (λ xs. EachWritesApart (trees xs)) c.as_slice.ensures.value (c.in_ok-apart.ensures c.if-not-apart.false)) c.in_ok-sorted.ensures
