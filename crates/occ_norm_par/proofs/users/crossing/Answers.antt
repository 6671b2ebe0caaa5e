use Rattle.occ_norm_par.proofs.Spanning.{crossing_end, crossing_more}
use Rattle.occ_norm_par.proofs.users.crossing.Goals as goal

pub loop-user-preserved : goal.loop-user-preserved
loop-user-preserved c = crossing_more _ _ _ _ _ _ _ _ _ c.loop-user-test.true c.loop-user.invariant c.is_across-wanted.ensures c.in_ok-push_if.ensures

pub returns : goal.returns
returns c = crossing_end _ _ _ _ _ _ c.loop-user-test.false c.loop-user.invariant
