use Rattle.occ_derive_laws.proofs.Conditions.{always_exhaustive, conditions_append}
use Rattle.occ_derive_laws.proofs.facts.lists_with_true_are_exhaustive.Goals as goal

pub returns-clause-always : goal.returns-clause-always
returns-clause-always c = always_exhaustive

pub returns-clause-lists : goal.returns-clause-lists
returns-clause-lists c = conditions_append
