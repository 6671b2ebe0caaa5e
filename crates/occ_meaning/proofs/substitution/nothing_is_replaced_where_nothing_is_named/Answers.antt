use Rattle.occ_meaning.proofs.Substituting.{nothing_substituted}
use Rattle.occ_meaning.proofs.substitution.nothing_is_replaced_where_nothing_is_named.Goals as goal

pub returns : goal.returns
returns c = nothing_substituted
