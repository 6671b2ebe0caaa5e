use Rattle.occ_derive_laws.proofs.Inputs.{passed_on}
use Rattle.occ_derive_laws.proofs.variables.inputs_go_into_variables.Goals as goal

pub returns : goal.returns
returns c = λ S z w gs hs b c x p m k. passed_on S z w gs hs b c x p k m
