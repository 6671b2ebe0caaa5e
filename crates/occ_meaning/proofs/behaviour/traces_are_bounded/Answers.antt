use Rattle.occ_meaning.proofs.Bounded.{part_bounded}
use Rattle.occ_meaning.proofs.behaviour.traces_are_bounded.Goals as goal

pub returns : goal.returns
returns c = λ Γ p s t o d. (part_bounded p).bound Γ s t o d
