use Rattle.occ_derive_laws.proofs.Exchanged.{branches_law, choices_law, sides_law}
use Rattle.occ_derive_laws.proofs.expressions.expr_joins.Goals as goal

pub returns-clause-sides : goal.returns-clause-sides
returns-clause-sides c = sides_law

pub returns-clause-choices : goal.returns-clause-choices
returns-clause-choices c = choices_law

pub returns-clause-branches : goal.returns-clause-branches
returns-clause-branches c = branches_law
