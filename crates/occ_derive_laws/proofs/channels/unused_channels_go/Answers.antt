use Rattle.occ_derive_laws.proofs.Connected.{unused_channel_goes}
use Rattle.occ_derive_laws.proofs.Using.{hidden_uses}
use Rattle.occ_derive_laws.proofs.channels.unused_channels_go.Goals as goal

pub returns-clause-law : goal.returns-clause-law
returns-clause-law c = unused_channel_goes

pub returns-clause-sparing : goal.returns-clause-sparing
returns-clause-sparing c = hidden_uses
