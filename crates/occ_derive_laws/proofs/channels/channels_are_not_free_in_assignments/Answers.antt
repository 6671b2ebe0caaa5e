use Rattle.occ_derive_laws.proofs.Connected.{channel_not_assigned}
use Rattle.occ_derive_laws.proofs.channels.channels_are_not_free_in_assignments.Goals as goal

pub returns : goal.returns
returns c = channel_not_assigned
