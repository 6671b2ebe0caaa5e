use Rattle.occ_dd.proofs.Sets.{known_size, leaf_constant, branch_splits}
use Rattle.occ_dd.proofs.store.Store.split.Goals as goal

pub node-requires : goal.node-requires
node-requires c = known_size c.args.self.now c.args.a c.requires

pub returns-in-Leaf : goal.returns-in-Leaf
returns-in-Leaf c = leaf_constant c.args.self.now c.args.a _ c.in-Leaf.ensures

pub returns-in-Branch : goal.returns-in-Branch
returns-in-Branch c = branch_splits c.args.self.now c.args.a c.in-Branch.branch c.in-Branch.ensures
