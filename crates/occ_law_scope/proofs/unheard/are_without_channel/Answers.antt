use Rattle.occ_syntax.specs.Tree.{no_branch}
use Rattle.occ_syntax.specs.View.{branches}
use Rattle.occ_law_shape.proofs.Fronts.{test_of}
use Rattle.occ_law_scope.proofs.Lists.{branches_none, no_branches, whole}
use Rattle.occ_law_scope.proofs.OffChannel.{no_more}
use Rattle.occ_law_scope.proofs.unheard.are_without_channel.Goals as goal

pub returns : goal.returns
returns c = whole (branches c.loop-branch.rest.now) _ no_branch _ (no_more c.args.channel.0 c.args.width _ (no_branches c.args.alternatives.now _ c.loop-branch-test.false))
    (branches_none c.loop-branch.rest.now _ (test_of _ _ c.is_empty.ensures)) c.loop-branch.invariant
