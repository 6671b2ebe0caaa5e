use Rattle.occ_meaning.proofs.Substituting.{substituted_names}
use Rattle.occ_meaning.proofs.substitution.substitution_brings_no_other_names.Goals as goal

pub returns : goal.returns
returns c = substituted_names
