use Rattle.occ_derive_laws.proofs.Declared.{unused_comes}
use Rattle.occ_derive_laws.proofs.variables.unused_variables_come.Goals as goal

pub returns : goal.returns
returns c = unused_comes
