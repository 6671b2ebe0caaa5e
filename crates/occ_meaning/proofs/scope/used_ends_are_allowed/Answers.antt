use Rattle.occ_meaning.proofs.Refusals.{end_in_scope}
use Rattle.occ_meaning.proofs.scope.used_ends_are_allowed.Goals as goal

pub returns : goal.returns
returns c = end_in_scope
