use Rattle.std.proofs.Common.{arith, ap, length}
use Rattle.occ_nform_read.proofs.Ranks.{shortest_more, shortest_end}
use Rattle.occ_nform_read.proofs.sets.shortest.Goals as goal

pub loop-set-preserved : goal.loop-set-preserved
loop-set-preserved c = shortest_more c.args.sets.now c.loop-set.set-index c.loop-set.least c.min-least.result c.set-item.result (omega arith) c.set-item.is (omega (arith, c.min-least.ensures)) (omega (arith, c.min-least.ensures, ap length c.items.ensures)) c.loop-set.invariant

pub returns : goal.returns
returns c = shortest_end c.args.sets.now c.loop-set.set-index c.loop-set.least (omega arith) c.loop-set.invariant
