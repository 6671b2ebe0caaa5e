use Rattle.occ_meaning.proofs.DeclaredInTurn.{variable_past_last}
use Rattle.occ_meaning.proofs.declare.variables_may_end_before_a_part.Goals as goal

pub returns : goal.returns
returns c = variable_past_last
