use Rattle.std.proofs.Common.{arith, sym}
use Rattle.occ_nform_read.proofs.Ranks.{sets_more, sets_stop, sets_end}
use Rattle.occ_nform_read.proofs.sets.sets_fault.Goals as goal

pub returns-then-is_some : goal.returns-then-is_some
returns-then-is_some c = sets_stop c.args.line c.args.offers.now c.args.sets.now c.loop-i.i _ c.set_fault-fault.result (omega arith) (sym c.if-is_some.ensures) c.set_fault-fault.ensures c.loop-i.invariant

pub loop-i-preserved : goal.loop-i-preserved
loop-i-preserved c = sets_more c.args.line c.args.offers.now c.args.sets.now c.loop-i.i _ c.set_fault-fault.result (omega arith) (sym c.if-is_some.ensures) c.set_fault-fault.ensures c.loop-i.invariant

pub returns : goal.returns
returns c = sets_end c.args.line c.args.offers.now c.args.sets.now c.loop-i.i _ (omega arith) c.loop-i.invariant
