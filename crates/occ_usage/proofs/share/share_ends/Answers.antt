use Rattle.occ_names.specs.Mentions.{same_end}
use Rattle.occ_names.proofs.Listed.{ends_tested}
use Rattle.occ_usage.proofs.Shared.{share_step, all_shared, next_end, no_end_left}
use Rattle.occ_usage.proofs.share.share_ends.Goals as goal

pub loop-end-preserved : goal.loop-end-preserved
loop-end-preserved c = λ b d. share_step same_end ends_tested _ _ c.args.others.now _ _ _ (b, d) _ (c.in_ok-share_end.ensures b d) (next_end _ _ c.loop-end-test.true) (c.loop-end.invariant b d)

pub returns : goal.returns
returns c = λ b d. all_shared same_end ends_tested _ _ c.args.others.now (b, d) _ (no_end_left _ _ c.loop-end-test.false) (c.loop-end.invariant b d)
