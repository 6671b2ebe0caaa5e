use Rattle.occ_complete_states.proofs.Leading.{spares_inside}
use Rattle.occ_complete_states.proofs.laws.sparing_parts_are_replaced.Goals as goal

pub returns : goal.returns
returns c = λ S p a b i. spares_inside S p i
