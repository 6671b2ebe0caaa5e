use Rattle.occ_meaning.proofs.Named.{or_condition}
use Rattle.occ_meaning.proofs.foundation.conditions_are_joined_by_or.Goals as goal

pub returns : goal.returns
returns c = or_condition
