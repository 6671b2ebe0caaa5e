use Rattle.occ_norm_arrange.proofs.Congruent.{all_items, none_yet, one_more, up_to}
use Rattle.occ_norm_arrange.specs.FlatArranged.{IsBranch}
use Rattle.occ_norm_arrange.proofs.lists.copied_branches.Goals as goal

pub loop-branch-init : goal.loop-branch-init
loop-branch-init c = none_yet IsBranch _ c.new-copies.ensures

pub loop-branch-preserved : goal.loop-branch-preserved
loop-branch-preserved c =
    up_to IsBranch _ _ _ _ c.loop-branch-test.true c.branch-item.is
    (one_more IsBranch _ _ _ _ _ c.loop-branch.invariant c.in_ok-branch_as.ensures c.in_ok-push.ensures.ok)

pub returns : goal.returns
returns c = all_items IsBranch _ _ _ c.loop-branch-test.false c.loop-branch.invariant
