use Rattle.occ_syntax.proofs.Within.{one_round}
use Rattle.occ_syntax.proofs.proc.Proc.within.Goals as goal

pub loop-name-preserved : goal.loop-name-preserved
loop-name-preserved c = one_round _ _ c.in-Some.field-0.now _ _ _ c.in-Some.ensures.steps c.in_ok-part.ensures c.loop-name.invariant
