use Rattle.occ_meaning.proofs.Substituting.{substituted_value}
use Rattle.occ_meaning.proofs.substitution.substituted_expressions_have_the_assigned_value.Goals as goal

pub returns : goal.returns
returns c = substituted_value
