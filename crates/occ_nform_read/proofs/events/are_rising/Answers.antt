use Rattle.std.proofs.Common.{arith}
use Rattle.occ_nform_read.proofs.Rising.{rising_goes, rising_stops, rising_ends}
use Rattle.occ_nform_read.proofs.events.are_rising.Goals as goal

pub returns-then-rank-floor : goal.returns-then-rank-floor
returns-then-rank-floor c = rising_stops c.args.params.now c.loop-event.floor c.args.events.now c.loop-event.event-index _ _ _ (omega arith) c.rank-rank.ensures.rank c.if-rank-floor.true c.loop-event.invariant.so_far

pub loop-event-preserved : goal.loop-event-preserved
loop-event-preserved c = record {
  so_far = rising_goes c.args.params.now c.loop-event.floor c.args.events.now c.loop-event.event-index _ _ _ (omega arith) c.rank-rank.ensures.rank c.if-rank-floor.false c.loop-event.invariant.so_far;
  small = omega (arith, c.rank-rank.ensures.within);
}

pub returns : goal.returns
returns c = rising_ends c.args.params.now c.loop-event.floor c.args.events.now c.loop-event.event-index _ (omega arith) c.loop-event.invariant.so_far
