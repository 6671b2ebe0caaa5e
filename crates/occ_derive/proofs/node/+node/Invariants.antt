use Rattle.occ_derive.proofs.node.+node.Given as goal

abbrev pub decreases-behind_input : goal.decreases-behind_input
decreases-behind_input l = l.fuel

abbrev pub decreases-behind : goal.decreases-behind
decreases-behind l = l.fuel

abbrev pub decreases-behind_all : goal.decreases-behind_all
decreases-behind_all l = l.fuel

abbrev pub decreases-node : goal.decreases-node
decreases-node l = l.fuel
