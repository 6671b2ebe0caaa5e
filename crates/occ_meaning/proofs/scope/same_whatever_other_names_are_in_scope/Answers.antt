use Rattle.occ_meaning.proofs.OtherScopes.{same_elsewhere}
use Rattle.occ_meaning.proofs.scope.same_whatever_other_names_are_in_scope.Goals as goal

pub returns : goal.returns
returns c = same_elsewhere
