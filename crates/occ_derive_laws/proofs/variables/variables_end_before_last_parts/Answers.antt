use Rattle.occ_derive_laws.proofs.Declared.{off_last}
use Rattle.occ_derive_laws.proofs.variables.variables_end_before_last_parts.Goals as goal

pub returns : goal.returns
returns c = off_last
