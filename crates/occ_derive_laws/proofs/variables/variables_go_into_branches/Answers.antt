use Rattle.occ_derive_laws.proofs.Declared.{into_branches}
use Rattle.occ_derive_laws.proofs.variables.variables_go_into_branches.Goals as goal

pub returns : goal.returns
returns c = into_branches
