use Rattle.std.proofs.Common.{◌<◌, length, arith}
use Rattle.occ_syntax.specs.View.{branches}
use Rattle.occ_law_shape.proofs.Fronts.{branches_end, branches_front, test_of}
use Rattle.occ_law_par.proofs.Cursor.{meets_end, meets_step}
use Rattle.occ_law_par.proofs.meet.are_meetings.Goals as goal

pub loop-front-preserved : goal.loop-front-preserved
loop-front-preserved c =
    let some : 0 < length c.loop-front.front.now = omega arith in
    meets_step _ _ _ _ _ _ _ _ (branches_front c.loop-front.front.now c.first-item.result some c.first-item.is) c.in-Some.ensures c.loop-front.invariant

pub returns : goal.returns
returns c =
    let none : length c.loop-front.front.now < 1 = omega arith in
    meets_end _ (branches c.args.seconds.now) c.loop-front.rest.now _ (branches_end c.loop-front.front.now none) c.loop-front.invariant (test_of _ _ c.is_empty.ensures)
