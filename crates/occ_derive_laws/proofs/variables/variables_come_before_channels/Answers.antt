use Rattle.occ_derive_laws.proofs.Declared.{past_channel, past_channel_spares}
use Rattle.occ_derive_laws.proofs.variables.variables_come_before_channels.Goals as goal

pub returns-clause-law : goal.returns-clause-law
returns-clause-law c = past_channel

pub returns-clause-sparing : goal.returns-clause-sparing
returns-clause-sparing c = past_channel_spares
