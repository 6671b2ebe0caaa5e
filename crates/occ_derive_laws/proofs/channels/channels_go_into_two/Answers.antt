use Rattle.occ_derive_laws.proofs.Connected.{into_two, into_two_spares}
use Rattle.occ_derive_laws.proofs.channels.channels_go_into_two.Goals as goal

pub returns-clause-law : goal.returns-clause-law
returns-clause-law c = into_two

pub returns-clause-sparing : goal.returns-clause-sparing
returns-clause-sparing c = into_two_spares
