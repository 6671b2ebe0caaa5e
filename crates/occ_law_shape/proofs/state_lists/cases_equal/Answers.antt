use Rattle.std.proofs.Common.{◌<◌, length, arith}
use Rattle.occ_law_shape.proofs.Fronts.{cases_end, cases_front, test_of}
use Rattle.occ_law_shape.proofs.Equalities.{all_cases_equal, cases_step, cases_types}
use Rattle.occ_law_shape.proofs.state_lists.cases_equal.Goals as goal

pub loop-rest-preserved : goal.loop-rest-preserved
loop-rest-preserved g c =
    let some : 0 < length c.loop-rest.rest.now = omega arith in
    let other : 0 < length c.loop-rest.other_rest.now = omega arith in
    record {
      same = cases_step (g.E.Equality.equals c.args.equality.now) _ _ _ _ _ _ _ _ (cases_front c.loop-rest.rest.now c.choice-item.result some c.choice-item.is)
          (cases_front c.loop-rest.other_rest.now c.other-item.result other c.other-item.is) (c.in_ok-is_equal.ensures.0 c.if-not-is_equal.false) (c.same_proc.ensures.0 c.if-not-same_proc.false)
          c.loop-rest.invariant.same;
      left = cases_types (g.E.Equality.environment c.args.equality.now) _ _ _ _ (cases_front c.loop-rest.rest.now c.choice-item.result some c.choice-item.is) c.loop-rest.invariant.left;
      right = cases_types (g.E.Equality.environment c.args.equality.now) _ _ _ _ (cases_front c.loop-rest.other_rest.now c.other-item.result other c.other-item.is) c.loop-rest.invariant.right;
    }

pub returns : goal.returns
returns g c =
    let none : length c.loop-rest.rest.now < 1 = omega arith in
    all_cases_equal (g.E.Equality.equals c.args.equality.now) _ c.loop-rest.other_rest.now _ (cases_end c.loop-rest.rest.now none) c.loop-rest.invariant.same (test_of _ _ c.is_empty.ensures)
