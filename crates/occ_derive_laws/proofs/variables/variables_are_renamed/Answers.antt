use Rattle.occ_derive_laws.proofs.Renamed.{variable_renamed, variable_renamed_spares}
use Rattle.occ_derive_laws.proofs.variables.variables_are_renamed.Goals as goal

pub returns-clause-law : goal.returns-clause-law
returns-clause-law c = variable_renamed

pub returns-clause-sparing : goal.returns-clause-sparing
returns-clause-sparing c = variable_renamed_spares
