use Rattle.occ_meaning.proofs.Ends.{part_uses}
use Rattle.occ_meaning.proofs.behaviour.events_are_on_used_ends.Goals as goal

pub returns : goal.returns
returns c = λ Θ p h Γ s t o d. (part_uses p Θ h).on_ends Γ s t o d
