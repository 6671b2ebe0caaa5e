use Rattle.occ_meaning.proofs.Named.{and_condition}
use Rattle.occ_meaning.proofs.foundation.conditions_are_joined_by_and.Goals as goal

pub returns : goal.returns
returns c = and_condition
