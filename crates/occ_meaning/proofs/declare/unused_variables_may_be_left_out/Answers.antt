use Rattle.occ_meaning.proofs.Declared.{variable_unused}
use Rattle.occ_meaning.proofs.declare.unused_variables_may_be_left_out.Goals as goal

pub returns : goal.returns
returns c = variable_unused
