use Rattle.occ_derive_laws.proofs.Pairs.{assigned_variables, variable_there}
use Rattle.occ_renamed.specs.occ_syntax.Scopes.{environment}
use Rattle.occ_derive_laws.proofs.assignments.assigned_are_variables.Goals as goal

pub returns-clause-all : goal.returns-clause-all
returns-clause-all c = assigned_variables

pub returns-clause-each : goal.returns-clause-each
returns-clause-each c = λ S. variable_there (environment S)
