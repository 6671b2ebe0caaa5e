use Rattle.std.proofs.Common.{max}
use Rattle.occ_dd.specs.Diagram.{depth_of}
use Rattle.occ_dd.specs.Table.{nodes_of}
use Rattle.occ_dd.specs.Store.{depth}
use Rattle.occ_mdd.proofs.collect.+collect.Given as goal

abbrev pub decreases-collect : goal.decreases-collect
decreases-collect g l = max (depth l.store.now l.set) (depth_of (nodes_of l.table.now) l.a)
