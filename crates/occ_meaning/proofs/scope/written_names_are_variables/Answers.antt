use Rattle.occ_meaning.proofs.Frame.{written_in_scope}
use Rattle.occ_meaning.proofs.scope.written_names_are_variables.Goals as goal

pub returns : goal.returns
returns c = written_in_scope
