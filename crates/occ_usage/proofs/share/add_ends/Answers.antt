use Rattle.occ_names.specs.Mentions.{same_end}
use Rattle.occ_names.proofs.Listed.{ends_tested}
use Rattle.occ_usage.proofs.Shared.{add_step, all_added, next_end, no_end_left}
use Rattle.occ_usage.proofs.share.add_ends.Goals as goal

pub loop-end-preserved : goal.loop-end-preserved
loop-end-preserved c = λ b d. add_step same_end ends_tested _ _ _ _ _ (b, d) _ c.in_ok-insert.ensures.ok (next_end _ _ c.loop-end-test.true) (c.loop-end.invariant b d)

pub returns : goal.returns
returns c = λ b d. all_added same_end ends_tested _ _ (b, d) _ (no_end_left _ _ c.loop-end-test.false) (c.loop-end.invariant b d)
