use Rattle.std.proofs.Common.{sym}
use Rattle.occ_norm_arrange.proofs.Listed.{all_of_none, copied_more}
use Rattle.occ_norm_arrange.proofs.sequence.push_all.Goals as goal

pub loop-part-init : goal.loop-part-init
loop-part-init c = sym (all_of_none _)

pub loop-part-preserved : goal.loop-part-preserved
loop-part-preserved c = copied_more _ _ _ _ _ _ _ c.loop-part-test.true c.part-item.is c.in_ok-copy.ensures c.in_ok-push.ensures.ok c.loop-part.invariant
