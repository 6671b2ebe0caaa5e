use Rattle.occ_derive_laws.proofs.Inputs.{input_at_once}
use Rattle.occ_derive_laws.proofs.variables.inputs_go_at_once.Goals as goal

pub returns : goal.returns
returns c = λ S z w gs hs b c x p m k. input_at_once S z w gs hs b c x p k m
