use Rattle.occ_derive_laws.proofs.Exchanged.{alike_itself, conjunction_alike}
use Rattle.occ_derive_laws.proofs.expressions.expressions_are_alike.Goals as goal

pub returns-clause-itself : goal.returns-clause-itself
returns-clause-itself c = alike_itself

pub returns-clause-conjunction : goal.returns-clause-conjunction
returns-clause-conjunction c = conjunction_alike
