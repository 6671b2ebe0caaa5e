use Rattle.occ_complete.proofs.Renewed.{renewed_shaped}
use Rattle.occ_complete_states.specs.Configured.{Follows}
use Rattle.occ_complete.proofs.laws.nodes_that_are_followed_are_shaped.Goals as goal

pub returns : goal.returns
returns c = λ h limit f n u next. renewed_shaped h f (Follows h limit) n u next
