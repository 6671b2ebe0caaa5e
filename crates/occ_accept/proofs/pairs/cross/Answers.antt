use Rattle.occ_accept.proofs.Chains.{cross_refuses, cross_events}
use Rattle.occ_accept.proofs.pairs.cross.Goals as goal

pub loop-set-preserved : goal.loop-set-preserved
loop-set-preserved c = (
  c.in_ok-add_unions.ensures.chain,
  cross_refuses c.items-set-items.result.now c.items-others.result.now c.loop-set.sets.items c.add_unions.new.sets.items c.loop-set.set-index c.set-item.result c.loop-set-test.true c.set-item.is
      c.loop-set.invariant.1 c.in_ok-add_unions.ensures.refuses,
  cross_events c.items-set-items.result.now c.items-others.result.now c.loop-set.sets.items c.add_unions.new.sets.items c.loop-set.set-index c.set-item.result c.loop-set-test.true c.set-item.is
      c.loop-set.invariant.2 c.in_ok-add_unions.ensures.events,
)
