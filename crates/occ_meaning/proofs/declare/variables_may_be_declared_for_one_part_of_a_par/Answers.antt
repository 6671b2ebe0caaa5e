use Rattle.occ_meaning.proofs.DeclaredBeside.{variable_of_one_part}
use Rattle.occ_meaning.proofs.declare.variables_may_be_declared_for_one_part_of_a_par.Goals as goal

pub returns : goal.returns
returns c = variable_of_one_part
