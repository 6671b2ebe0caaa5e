use Rattle.occ_derive_laws.proofs.Declared.{round_first}
use Rattle.occ_derive_laws.proofs.variables.variables_come_round_first_parts.Goals as goal

pub returns : goal.returns
returns c = round_first
