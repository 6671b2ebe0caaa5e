use Rattle.occ_meaning.proofs.Contexts.{select_same}
use Rattle.occ_meaning.proofs.same.if_of_same_processes.Goals as goal

pub returns : goal.returns
returns c = select_same
