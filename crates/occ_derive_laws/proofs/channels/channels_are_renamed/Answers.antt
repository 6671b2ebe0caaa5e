use Rattle.occ_derive_laws.proofs.Renamed.{channel_renamed, channel_renamed_spares}
use Rattle.occ_derive_laws.proofs.channels.channels_are_renamed.Goals as goal

pub returns-clause-law : goal.returns-clause-law
returns-clause-law c = channel_renamed

pub returns-clause-sparing : goal.returns-clause-sparing
returns-clause-sparing c = channel_renamed_spares
