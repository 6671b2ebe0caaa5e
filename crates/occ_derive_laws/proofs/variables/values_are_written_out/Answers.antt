use Rattle.occ_derive_laws.proofs.Values.{any_value}
use Rattle.occ_derive_laws.proofs.variables.values_are_written_out.Goals as goal

pub returns : goal.returns
returns c = any_value
