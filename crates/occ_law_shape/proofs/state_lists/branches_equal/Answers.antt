use Rattle.std.proofs.Common.{◌<◌, length, arith}
use Rattle.occ_law_shape.proofs.Fronts.{branches_end, branches_front, test_of}
use Rattle.occ_law_shape.proofs.Equalities.{all_branches_equal, branches_step, branches_types}
use Rattle.occ_law_shape.proofs.state_lists.branches_equal.Goals as goal

pub loop-rest-preserved : goal.loop-rest-preserved
loop-rest-preserved g c =
    let some : 0 < length c.loop-rest.rest.now = omega arith in
    let other : 0 < length c.loop-rest.other_rest.now = omega arith in
    let equal = c.in_ok-is_equal.ensures.0 c.if-not-is_equal.false in
    record {
      same = branches_step (g.E.Equality.equals c.args.equality.now) _ _ _ _ _ _ _ _ _ _ (branches_front c.loop-rest.rest.now c.branch-item.result some c.branch-item.is)
          (branches_front c.loop-rest.other_rest.now c.other-item.result other c.other-item.is) equal.0 equal.1 equal.2 c.loop-rest.invariant.same;
      left = branches_types (g.E.Equality.environment c.args.equality.now) _ _ _ _ _ (branches_front c.loop-rest.rest.now c.branch-item.result some c.branch-item.is) c.loop-rest.invariant.left;
      right = branches_types (g.E.Equality.environment c.args.equality.now) _ _ _ _ _ (branches_front c.loop-rest.other_rest.now c.other-item.result other c.other-item.is) c.loop-rest.invariant.right;
    }

pub returns : goal.returns
returns g c =
    let none : length c.loop-rest.rest.now < 1 = omega arith in
    all_branches_equal (g.E.Equality.equals c.args.equality.now) _ c.loop-rest.other_rest.now _ (branches_end c.loop-rest.rest.now none) c.loop-rest.invariant.same (test_of _ _ c.is_empty.ensures)
