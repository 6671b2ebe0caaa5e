use Rattle.occ_meaning.proofs.Contexts.{declare_same}
use Rattle.occ_meaning.proofs.same.same_under_a_variable.Goals as goal

pub returns : goal.returns
returns c = declare_same
