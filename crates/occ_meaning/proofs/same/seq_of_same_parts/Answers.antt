use Rattle.occ_meaning.proofs.Contexts.{seq_same}
use Rattle.occ_meaning.proofs.same.seq_of_same_parts.Goals as goal

pub returns : goal.returns
returns c = seq_same
