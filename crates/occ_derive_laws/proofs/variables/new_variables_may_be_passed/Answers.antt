use Rattle.occ_derive_laws.proofs.Inputs.{may_pass}
use Rattle.occ_derive_laws.proofs.variables.new_variables_may_be_passed.Goals as goal

pub returns : goal.returns
returns c = may_pass
