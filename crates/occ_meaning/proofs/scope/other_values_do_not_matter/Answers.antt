use Rattle.occ_meaning.proofs.OffValues.{part_ignores}
use Rattle.occ_meaning.proofs.scope.other_values_do_not_matter.Goals as goal

pub returns : goal.returns
returns c = λ Θ p h x k Γ s v t o d. (part_ignores p Θ h x k).ignored Γ s v t o d
