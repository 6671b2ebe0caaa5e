use Rattle.occ_meaning.proofs.Named.{not_condition}
use Rattle.occ_meaning.proofs.foundation.conditions_are_negated.Goals as goal

pub returns : goal.returns
returns c = not_condition
