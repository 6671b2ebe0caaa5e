use Rattle.occ_dd.specs.Diagram.{depth_of}
use Rattle.occ_dd.specs.Table.{nodes_of}
use Rattle.occ_dd.proofs.table.Table.+flip.Given as goal

abbrev pub decreases-flip : goal.decreases-flip
decreases-flip g l = depth_of (nodes_of l.self.now) l.id
