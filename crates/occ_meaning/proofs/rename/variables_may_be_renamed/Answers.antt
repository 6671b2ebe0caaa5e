use Rattle.occ_meaning.proofs.Redeclared.{variable_renamed}
use Rattle.occ_meaning.proofs.rename.variables_may_be_renamed.Goals as goal

pub returns : goal.returns
returns c = variable_renamed
