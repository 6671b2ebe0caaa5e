use Rattle.occ_meaning.proofs.States.{part_states}
use Rattle.occ_meaning.proofs.foundation.typed_parts_take_states_to_states.Goals as goal

pub returns : goal.returns
returns c = λ Γ p h s t s' start d. (part_states p Γ h).state s t s' start d
