use Rattle.occ_meaning.proofs.Frame.{part_value}
use Rattle.occ_meaning.proofs.foundation.unwritten_variables_keep_their_values.Goals as goal

pub returns : goal.returns
returns c = λ Θ p h x k Γ s t s' d. (part_value p Θ h x k).value Γ s t s' d
