use Rattle.occ_complete.proofs.Beside.{last_true}
use Rattle.occ_complete.proofs.par_laws.choices_with_a_last_true_are_exhaustive.Goals as goal

pub returns : goal.returns
returns c = last_true
