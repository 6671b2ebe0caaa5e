use Rattle.std.proofs.Common.{sym, ◌∙◌}
use Rattle.occ_names.specs.Mentions.{same_end}
use Rattle.occ_names.proofs.Listed.{ends_tested}
use Rattle.occ_usage.proofs.Shared.{next_end, no_end_left}
use Rattle.occ_usage.proofs.Lists.{none_in, one_more_in}
use Rattle.occ_usage.proofs.sets.has_ends.Goals as goal

pub loop-end-init : goal.loop-end-init
loop-end-init c = λ h. h

pub loop-end-preserved : goal.loop-end-preserved
loop-end-preserved c = λ h. c.loop-end.invariant (one_more_in same_end ends_tested _ _ _ _ (next_end _ _ c.loop-end-test.true) (sym c.if-not-contains.false ∙ c.contains.ensures) h)

pub returns : goal.returns
returns c = λ yes. c.loop-end.invariant (none_in same_end ends_tested _ _ (no_end_left _ _ c.loop-end-test.false))
