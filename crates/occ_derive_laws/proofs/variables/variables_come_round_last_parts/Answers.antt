use Rattle.occ_derive_laws.proofs.Declared.{round_last, round_last_spares}
use Rattle.occ_derive_laws.proofs.variables.variables_come_round_last_parts.Goals as goal

pub returns-clause-law : goal.returns-clause-law
returns-clause-law c = round_last

pub returns-clause-sparing : goal.returns-clause-sparing
returns-clause-sparing c = round_last_spares
