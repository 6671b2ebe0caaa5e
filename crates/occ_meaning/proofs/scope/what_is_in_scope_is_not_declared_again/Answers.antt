use Rattle.occ_meaning.proofs.InScope.{stands_nowhere}
use Rattle.occ_meaning.proofs.scope.what_is_in_scope_is_not_declared_again.Goals as goal

pub returns : goal.returns
returns c = stands_nowhere
