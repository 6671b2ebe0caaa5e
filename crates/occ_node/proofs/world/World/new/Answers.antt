use Rattle.std.proofs.Common.{rules}
use Rattle.occ_node.specs.World.{nodes_of}
use Rattle.occ_node.proofs.world.World.new.Goals as goal

pub returns-clause-nodes : goal.returns-clause-nodes
unfolding nodes_of
returns-clause-nodes c = search rules
