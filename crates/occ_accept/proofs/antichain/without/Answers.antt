use Rattle.occ_accept.proofs.Chains.{without_refuses, without_events}
use Rattle.occ_accept.proofs.antichain.without.Goals as goal

pub loop-set-preserved : goal.loop-set-preserved
loop-set-preserved c = (
  c.in_ok-add.ensures.chain,
  without_refuses c.args.chan c.items-set-items.result.now c.loop-set.chain.items c.add.new.sets.items c.loop-set.set-index c.set-item.result c.in_ok-without.field-0 c.loop-set-test.true c.set-item.is
      c.in_ok-without.ensures c.loop-set.invariant.1 c.in_ok-add.ensures.refuses,
  without_events c.args.chan c.items-set-items.result.now c.loop-set.chain.items c.add.new.sets.items c.loop-set.set-index c.set-item.result c.in_ok-without.field-0 c.loop-set-test.true c.set-item.is
      c.in_ok-without.ensures c.loop-set.invariant.2 c.in_ok-add.ensures.events,
)
