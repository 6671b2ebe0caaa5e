use Rattle.std.proofs.Common.{◌≡◌, ◌<◌, length}
use Rattle.occ_dd.specs.Diagram.{depth_of, end_of}
use Rattle.occ_dd.specs.Table.{nodes_of}
use Rattle.occ_dd.proofs.table.Table.label.Given as goal

abbrev pub invariant-loop-label : goal.invariant-loop-label
invariant-loop-label g l = (l.at < length (nodes_of l.self)) × (end_of (nodes_of l.self) l.at l.bits ≡ end_of (nodes_of l.self) l.id l.bits)

abbrev pub decreases-loop-label : goal.decreases-loop-label
decreases-loop-label g l = depth_of (nodes_of l.self) l.at
