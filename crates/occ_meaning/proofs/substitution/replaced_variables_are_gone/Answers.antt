use Rattle.occ_meaning.proofs.Substituting.{substituted_gone}
use Rattle.occ_meaning.proofs.substitution.replaced_variables_are_gone.Goals as goal

pub returns : goal.returns
returns c = substituted_gone
