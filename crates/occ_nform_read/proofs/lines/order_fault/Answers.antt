use Rattle.std.proofs.Common.{arith}
use Rattle.occ_nform_read.proofs.Faults.{order_more, order_stop, order_end}
use Rattle.occ_nform_read.proofs.lines.order_fault.Goals as goal

pub returns-then-not-follows : goal.returns-then-not-follows
returns-then-not-follows c = order_stop c.loop-place.at c.loop-place.before c.args.places.now c.loop-place.place-index _ (omega arith) c.if-not-follows.ensures c.loop-place.invariant.same

pub loop-place-preserved : goal.loop-place-preserved
loop-place-preserved c = record {
  same = order_more c.loop-place.at c.loop-place.before c.args.places.now c.loop-place.place-index _ (omega arith) c.if-not-follows.ensures c.loop-place.invariant.same;
  at_line = omega arith;
}

pub returns : goal.returns
returns c = order_end c.loop-place.at c.loop-place.before c.args.places.now c.loop-place.place-index _ (omega arith) c.loop-place.invariant.same
