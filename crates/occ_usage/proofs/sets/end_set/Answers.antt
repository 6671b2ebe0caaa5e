use Rattle.std.proofs.Common.{◌||◌, drop, ap}
use Rattle.occ_names.specs.Once.{has}
use Rattle.occ_names.specs.Mentions.{same_end, end_numbers}
use Rattle.occ_names.proofs.Listed.{ends_tested}
use Rattle.occ_usage.proofs.Shared.{add_step, all_added, next_end, no_end_left}
use Rattle.occ_usage.proofs.sets.end_set.Goals as goal

pub loop-end-init : goal.loop-end-init
loop-end-init c = λ e. ap (λ ys. has same_end ys e || has same_end (end_numbers (drop 0 c.args.ends.now)) e) c.new-set.ensures

pub loop-end-preserved : goal.loop-end-preserved
loop-end-preserved c = λ e. add_step same_end ends_tested _ _ _ _ _ e _ c.in_ok-insert.ensures.ok (next_end _ _ c.loop-end-test.true) (c.loop-end.invariant e)

pub returns : goal.returns
returns c = λ e. all_added same_end ends_tested _ _ e _ (no_end_left _ _ c.loop-end-test.false) (c.loop-end.invariant e)
