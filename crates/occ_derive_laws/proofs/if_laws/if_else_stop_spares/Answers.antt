use Rattle.occ_derive_laws.proofs.Choices.{else_spares}
use Rattle.occ_derive_laws.proofs.if_laws.if_else_stop_spares.Goals as goal

pub returns : goal.returns
returns c = else_spares
