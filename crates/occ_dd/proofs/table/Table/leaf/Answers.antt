use Rattle.occ_dd.specs.declared.node.Node.TheVariants.{Leaf}
use Rattle.occ_dd.proofs.Growth.{diagram_interned, turned_interned, keeps_interned, growth_interned, fit_leaf}
use Rattle.occ_dd.proofs.table.Table.leaf.Goals as goal

pub invariant_of-self : goal.invariant_of-self
invariant_of-self g c = record {
  diagram = diagram_interned c.args.self.now.nodes.keys c.intern.new.nodes.keys (Leaf c.args.label) c.args.self.now.diagram (fit_leaf c.args.self.now.nodes.keys c.args.label) c.intern.ensures.nodes;
  flips_right = turned_interned c.args.self.now.nodes.keys c.intern.new.nodes.keys _ c.args.self.now.diagram c.intern.ensures.nodes c.args.self.now.flips c.args.self.now.flips_right;
}

pub returns-clause-keeps : goal.returns-clause-keeps
returns-clause-keeps g c = keeps_interned c.args.self.now.nodes.keys c.intern.new.nodes.keys _ c.intern.ensures.nodes

pub returns-clause-growth : goal.returns-clause-growth
returns-clause-growth g c = growth_interned c.args.self.now.nodes.keys c.intern.new.nodes.keys _ c.intern.ensures.nodes
