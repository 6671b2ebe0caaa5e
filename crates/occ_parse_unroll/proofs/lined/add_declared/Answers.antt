use Rattle.occ_parse_unroll.proofs.Numbered.{declared_more}
use Rattle.occ_parse_unroll.proofs.lined.add_declared.Goals as goal

pub loop-d-preserved : goal.loop-d-preserved
loop-d-preserved c = declared_more _ _ _ _ _ _ _ _ c.loop-d-test.true c.places.ensures.number c.in_ok-add_often.ensures c.loop-d.invariant
