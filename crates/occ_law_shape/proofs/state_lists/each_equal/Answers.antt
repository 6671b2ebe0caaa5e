use Rattle.std.proofs.Common.{◌<◌, length, arith}
use Rattle.occ_law_shape.proofs.Fronts.{exps_end, exps_front, test_of}
use Rattle.occ_law_shape.proofs.Equalities.{each_step, each_types, each_whole}
use Rattle.occ_law_shape.proofs.state_lists.each_equal.Goals as goal

pub loop-rest-preserved : goal.loop-rest-preserved
loop-rest-preserved g c =
    let some : 0 < length c.loop-rest.rest.now = omega arith in
    let other : 0 < length c.loop-rest.other_rest.now = omega arith in
    record {
      same = each_step (g.E.Equality.equals c.args.equality.now) _ _ _ _ _ _ (exps_front c.loop-rest.rest.now c.expr-item.result some c.expr-item.is)
          (exps_front c.loop-rest.other_rest.now c.other-item.result other c.other-item.is) (c.in_ok-is_equal.ensures.0 c.if-not-is_equal.false) c.loop-rest.invariant.same;
      types = each_types (g.E.Equality.environment c.args.equality.now) _ _ _ _ _ _ (exps_front c.loop-rest.rest.now c.expr-item.result some c.expr-item.is)
          (exps_front c.loop-rest.other_rest.now c.other-item.result other c.other-item.is) c.loop-rest.invariant.types;
    }

pub returns : goal.returns
returns g c =
    let none : length c.loop-rest.rest.now < 1 = omega arith in
    each_whole (g.E.Equality.equals c.args.equality.now) _ c.loop-rest.other_rest.now _ (exps_end c.loop-rest.rest.now none) c.loop-rest.invariant.same (test_of _ _ c.is_empty.ensures)
