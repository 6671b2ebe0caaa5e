use Rattle.occ_meaning.proofs.DeclaredInTurn.{variable_past_first}
use Rattle.occ_meaning.proofs.declare.variables_may_be_declared_behind_a_part.Goals as goal

pub returns : goal.returns
returns c = variable_past_first
