use Rattle.occ_derive_laws.proofs.Connected.{channel_into_choices, channel_into_choices_spares}
use Rattle.occ_derive_laws.proofs.channels.channels_go_into_choices.Goals as goal

pub returns-clause-law : goal.returns-clause-law
returns-clause-law c = channel_into_choices

pub returns-clause-sparing : goal.returns-clause-sparing
returns-clause-sparing c = channel_into_choices_spares
