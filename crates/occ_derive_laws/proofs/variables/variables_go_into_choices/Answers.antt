use Rattle.occ_derive_laws.proofs.Declared.{into_choices}
use Rattle.occ_derive_laws.proofs.variables.variables_go_into_choices.Goals as goal

pub returns : goal.returns
returns c = into_choices
