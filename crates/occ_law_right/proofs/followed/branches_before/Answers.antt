use Rattle.std.proofs.Common.{◌<◌, length, arith, ap}
use Rattle.occ_syntax.specs.View.{trees}
use Rattle.occ_law_seq.specs.occ_law.Sequence.{each_branch_before}
use Rattle.occ_law_seq.proofs.from_law_shape.Fronts.{branches_end, branches_front}
use Rattle.occ_law_right.proofs.Growing.{branches_done, branch_step}
use Rattle.occ_law_right.proofs.followed.branches_before.Goals as goal

pub loop-rest-preserved : goal.loop-rest-preserved
loop-rest-preserved c =
    let some : 0 < length c.loop-rest.rest.now = omega arith in
    branch_step _ _ _ _ _ _ _ _ _ _ _ (ap (λ z. each_branch_before z (trees c.args.behind.now)) (branches_front c.loop-rest.rest.now c.branch-item.result some c.branch-item.is))
    c.in_ok-guard.ensures.condition c.in_ok-guard.ensures.wait c.in_ok-part.ensures c.in_ok-add_branch.ensures c.loop-rest.invariant

pub returns : goal.returns
returns c =
    let none : length c.loop-rest.rest.now < 1 = omega arith in
    branches_done _ _ _ (ap (λ z. each_branch_before z (trees c.args.behind.now)) (branches_end c.loop-rest.rest.now none)) c.loop-rest.invariant
