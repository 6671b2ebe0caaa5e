use Rattle.occ_meaning.proofs.Substituting.{substituted_type}
use Rattle.occ_meaning.proofs.substitution.substitution_keeps_types.Goals as goal

pub returns : goal.returns
returns c = substituted_type
