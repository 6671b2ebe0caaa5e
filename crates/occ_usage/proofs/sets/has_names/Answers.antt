use Rattle.std.proofs.Common.{sym, ◌∙◌}
use Rattle.occ_names.specs.Once.{same_number}
use Rattle.occ_names.proofs.Listed.{numbers_tested}
use Rattle.occ_usage.proofs.Shared.{next_name, no_name}
use Rattle.occ_usage.proofs.Lists.{none_in, one_more_in}
use Rattle.occ_usage.proofs.sets.has_names.Goals as goal

pub loop-name-init : goal.loop-name-init
loop-name-init c = λ h. h

pub loop-name-preserved : goal.loop-name-preserved
loop-name-preserved c = λ h. c.loop-name.invariant (one_more_in same_number numbers_tested _ _ _ _ (next_name _ _ c.loop-name-test.true) (sym c.if-not-contains.false ∙ c.contains.ensures) h)

pub returns : goal.returns
returns c = λ yes. c.loop-name.invariant (none_in same_number numbers_tested _ _ (no_name _ _ c.loop-name-test.false))
