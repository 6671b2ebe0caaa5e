use Rattle.occ_meaning.proofs.Declared.{variables_swapped}
use Rattle.occ_meaning.proofs.declare.two_variables_may_change_places.Goals as goal

pub returns : goal.returns
returns c = variables_swapped
