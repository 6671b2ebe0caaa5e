use Rattle.occ_dd.specs.Table.{nodes_of}
use Rattle.occ_dd.specs.Choices.{greatest_depth}
use Rattle.occ_dd.proofs.store.Store.+choose.Given as goal

abbrev pub decreases-choose : goal.decreases-choose
decreases-choose l = greatest_depth (nodes_of l.self.now.table) l.test l.yes l.no
