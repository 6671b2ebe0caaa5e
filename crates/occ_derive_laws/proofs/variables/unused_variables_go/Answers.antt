use Rattle.occ_derive_laws.proofs.Declared.{unused_goes}
use Rattle.occ_derive_laws.proofs.variables.unused_variables_go.Goals as goal

pub returns : goal.returns
returns c = unused_goes
