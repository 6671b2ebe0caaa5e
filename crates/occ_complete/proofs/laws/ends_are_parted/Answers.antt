use Rattle.occ_complete.proofs.Cleared.{ending_clears}
use Rattle.occ_complete.proofs.laws.ends_are_parted.Goals as goal

pub returns : goal.returns
returns c = λ h state kept is. ending_clears h kept state is
