use Rattle.occ_meaning.proofs.InScope.{free_in_scope}
use Rattle.occ_meaning.proofs.scope.free_names_are_in_scope.Goals as goal

pub returns : goal.returns
returns c = free_in_scope
