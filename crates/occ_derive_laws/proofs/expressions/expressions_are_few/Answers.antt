use Rattle.occ_derive_laws.proofs.Exchanged.{few_as}
use Rattle.occ_derive_laws.proofs.Few.{variables_few}
use Rattle.occ_derive_laws.proofs.expressions.expressions_are_few.Goals as goal

pub returns-clause-variables : goal.returns-clause-variables
returns-clause-variables c = variables_few

pub returns-clause-others : goal.returns-clause-others
returns-clause-others c = few_as
