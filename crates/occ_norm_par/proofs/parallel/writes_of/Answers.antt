use Rattle.std.proofs.Common.{sym, subst, []}
use Rattle.occ_norm_par.specs.Sides.{AllWritten}
use Rattle.occ_norm_par.proofs.Writing.{all_written_end, all_written_more, all_written_none}
use Rattle.occ_norm_par.proofs.parallel.writes_of.Goals as goal

pub loop-part-init : goal.loop-part-init
loop-part-init c = subst (AllWritten c.args.frame.now.layout []) (sym c.new-writes.ensures.items) (all_written_none c.args.frame.now.layout)

pub loop-part-preserved : goal.loop-part-preserved
loop-part-preserved c = subst (AllWritten c.args.frame.now.layout _) (sym c.in_ok-push.ensures.items)
    (all_written_more c.args.frame.now.layout c.args.parts.now _ _ _ _ _ c.loop-part-test.true c.part-item.is c.loop-part.invariant c.in_ok-bits.ensures.written)

pub returns : goal.returns
returns c = all_written_end c.args.frame.now.layout c.args.parts.now _ _ c.loop-part-test.false c.loop-part.invariant
