use Rattle.std.proofs.Common.{rules}
use Rattle.occ_node.specs.World.{nodes_of}
use Rattle.occ_node.proofs.world.World.nodes.Goals as goal

pub returns : goal.returns
unfolding nodes_of
returns c = search rules
