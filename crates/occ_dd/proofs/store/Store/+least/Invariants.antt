use Rattle.occ_dd.specs.Diagram.{depth_of}
use Rattle.occ_dd.specs.Table.{nodes_of}
use Rattle.occ_dd.proofs.store.Store.+least.Given as goal

abbrev pub decreases-least : goal.decreases-least
decreases-least l = depth_of (nodes_of l.self.now.table) l.id
