use Rattle.occ_law.proofs.Named.{one_law}
use Rattle.occ_law.proofs.table.names_are_distinct.Goals as goal

pub returns : goal.returns
returns c = one_law
