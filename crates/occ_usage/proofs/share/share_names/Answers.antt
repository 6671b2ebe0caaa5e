use Rattle.occ_names.specs.Once.{same_number}
use Rattle.occ_names.proofs.Listed.{numbers_tested}
use Rattle.occ_usage.proofs.Shared.{share_step, all_shared, next_name, no_name}
use Rattle.occ_usage.proofs.share.share_names.Goals as goal

pub loop-name-preserved : goal.loop-name-preserved
loop-name-preserved c = λ x. share_step same_number numbers_tested _ _ c.args.others.now _ _ _ x _ (c.in_ok-share_name.ensures x) (next_name _ _ c.loop-name-test.true) (c.loop-name.invariant x)

pub returns : goal.returns
returns c = λ x. all_shared same_number numbers_tested _ _ c.args.others.now x _ (no_name _ _ c.loop-name-test.false) (c.loop-name.invariant x)
