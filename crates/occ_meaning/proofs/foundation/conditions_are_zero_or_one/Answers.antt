use Rattle.occ_meaning.proofs.Named.{condition_bit}
use Rattle.occ_meaning.proofs.foundation.conditions_are_zero_or_one.Goals as goal

pub returns : goal.returns
returns c = condition_bit
