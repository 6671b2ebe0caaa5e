use Rattle.occ_norm_par.proofs.Spanning.{closed_in_end, closed_in_more}
use Rattle.occ_norm_par.proofs.users.within.Goals as goal

pub loop-user-preserved : goal.loop-user-preserved
loop-user-preserved c = closed_in_more _ _ _ _ _ _ _ _ c.loop-user-test.true c.loop-user.invariant c.is_within-wanted.ensures c.in_ok-push_if.ensures

pub returns : goal.returns
returns c = closed_in_end _ _ _ _ _ c.loop-user-test.false c.loop-user.invariant
