use Rattle.std.proofs.Common.{length}
use Rattle.occ_derive_open.proofs.layers.Layers.close.Given as goal

abbrev pub decreases-loop-layer : goal.decreases-loop-layer
decreases-loop-layer l = length l.self.list.items
