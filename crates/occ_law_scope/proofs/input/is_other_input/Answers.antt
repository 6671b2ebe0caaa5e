use Rattle.std.proofs.Common.{◌<◌, length, arith}
use Rattle.occ_law_shape.proofs.Fronts.{branches_front}
use Rattle.occ_law_scope.proofs.Placing.{further_on, placed_here}
use Rattle.occ_law_scope.proofs.input.is_other_input.Goals as goal

pub returns-then-is_input_here : goal.returns-then-is_input_here
returns-then-is_input_here c =
    let some : 0 < length c.loop-rest.rest.now = omega arith in
    let other : 0 < length c.loop-rest.other_rest.now = omega arith in
    placed_here c.args.name.0 _ _ _ _ _ _ _ _ _ _ _ (branches_front c.loop-rest.rest.now c.branch-item.result some c.branch-item.is)
    (branches_front c.loop-rest.other_rest.now c.other-item.result other c.other-item.is) (c.is_input_here.ensures.0 c.if-is_input_here.true) c.same_branches.ensures c.loop-rest.invariant

pub loop-rest-preserved : goal.loop-rest-preserved
loop-rest-preserved c =
    let some : 0 < length c.loop-rest.rest.now = omega arith in
    let other : 0 < length c.loop-rest.other_rest.now = omega arith in
    further_on c.args.name.0 _ _ _ _ _ _ _ _ _ _ (branches_front c.loop-rest.rest.now c.branch-item.result some c.branch-item.is)
    (branches_front c.loop-rest.other_rest.now c.other-item.result other c.other-item.is) (c.same_branch.ensures.0 c.if-not-same_branch.false) c.loop-rest.invariant
