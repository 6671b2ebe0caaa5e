use Rattle.occ_target.proofs.Left.{count_done, events_done, events_in, events_out, no_offer}
use Rattle.occ_target.proofs.count.events_size.Goals as goal
use Rattle.occ_target.proofs.count.events_size.Goals.{then-not-is_in_branch, else-not-is_in_branch}

pub loop-place-preserved : goal.loop-place-preserved
loop-place-preserved c =
    let inv = c.loop-place.invariant in
    elim c.if-not-is_in_branch.branch [
      | then-not-is_in_branch w ↦ events_out c.args.sizes.now c.loop-place.before c.args.offers.now c.loop-place.place no_offer inv.0 c.loop-place.count w.saturating_add.result w.size_behind-size.result w.saturating_add-count.result
          c.if-not-is_in_branch.count c.is_in_branch.result c.loop-place-test.true inv.1 inv.2 c.is_in_branch.ensures w.if-not-is_in_branch.true w.saturating_add.ensures w.size_behind-size.ensures w.saturating_add-count.ensures w.count-is
      | else-not-is_in_branch w ↦ events_in c.args.sizes.now c.loop-place.before c.args.offers.now c.loop-place.place no_offer inv.0 c.loop-place.count c.if-not-is_in_branch.count c.is_in_branch.result
          c.loop-place-test.true inv.1 inv.2 c.is_in_branch.ensures w.if-not-is_in_branch.false w.count-is
    ]

pub returns : goal.returns
returns c = count_done _ _ _ _ c.loop-place.invariant.1 c.loop-place.invariant.2 (events_done c.args.sizes.now c.loop-place.before c.args.offers.now c.loop-place.place c.loop-place-test.false)
