use Rattle.occ_meaning.proofs.Contexts.{alt_same}
use Rattle.occ_meaning.proofs.same.alt_of_same_processes.Goals as goal

pub returns : goal.returns
returns c = alt_same
