use Rattle.occ_dd.specs.Table.{nodes_of}
use Rattle.occ_mdd.specs.Combined.{deepest}
use Rattle.occ_mdd.proofs.combine.+combine.Given as goal

abbrev pub decreases-combine : goal.decreases-combine
decreases-combine g l = deepest (nodes_of l.table.now) l.call
