use Rattle.std.proofs.Common.{refl}
use Rattle.occ_law.specs.Table.{law_names}
use Rattle.occ_law.proofs.table.find.Goals as goal

pub find_among-requires : goal.find_among-requires
unfolding law_names
find_among-requires c = refl

pub returns-clause-named : goal.returns-clause-named
returns-clause-named c = c.find_among.ensures.named

pub returns-clause-found : goal.returns-clause-found
returns-clause-found c = c.find_among.ensures.found
