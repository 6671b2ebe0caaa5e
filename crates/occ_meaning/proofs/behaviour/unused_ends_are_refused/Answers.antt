use Rattle.occ_meaning.proofs.Refusals.{part_more}
use Rattle.occ_meaning.proofs.behaviour.unused_ends_are_refused.Goals as goal

pub returns : goal.returns
returns c = λ Θ p h Γ s t X W ext d. (part_more p Θ h).more Γ s t X W ext d
