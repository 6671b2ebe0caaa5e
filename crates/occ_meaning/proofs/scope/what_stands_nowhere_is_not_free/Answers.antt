use Rattle.occ_meaning.proofs.InScope.{nowhere_free}
use Rattle.occ_meaning.proofs.scope.what_stands_nowhere_is_not_free.Goals as goal

pub returns : goal.returns
returns c = nowhere_free
