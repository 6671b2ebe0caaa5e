use Rattle.occ_dd.specs.Diagram.{depth_of}
use Rattle.occ_dd.specs.Table.{nodes_of}
use Rattle.occ_dd.proofs.store.Store.+unite.Given as goal

abbrev pub decreases-unite : goal.decreases-unite
decreases-unite l = depth_of (nodes_of l.self.now.table) l.a
