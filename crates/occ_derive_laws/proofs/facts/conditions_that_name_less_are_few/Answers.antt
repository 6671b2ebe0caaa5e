use Rattle.occ_derive_laws.proofs.Conditions.{less_few}
use Rattle.occ_derive_laws.proofs.facts.conditions_that_name_less_are_few.Goals as goal

pub returns : goal.returns
returns c = less_few
