use Rattle.occ_meaning.proofs.Interface.{same_over_interface}
use Rattle.occ_meaning.proofs.same.same_over_the_interface.Goals as goal

pub returns : goal.returns
returns c = λ Γ p q hp hq h. same_over_interface Γ p q hp hq h.same_failures h.same_ends
