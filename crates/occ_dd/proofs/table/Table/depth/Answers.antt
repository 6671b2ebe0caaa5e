use Rattle.std.proofs.Common.{sym, arith}
use Rattle.occ_dd.proofs.DiagramLemmas.{depth-branch, depth-leaf, decision-bit}
use Rattle.occ_dd.proofs.table.Table.depth.Goals as goal

pub overflow_add-result : goal.overflow_add-result
overflow_add-result g c = omega (arith, decision-bit _ c.args.self.now.diagram c.args.id c.in-Branch.branch c.in-Branch.ensures)

pub returns-in-Leaf-clause-depth : goal.returns-in-Leaf-clause-depth
returns-in-Leaf-clause-depth g c = sym (depth-leaf _ c.args.id _ c.in-Leaf.ensures)

pub returns-in-Branch-clause-depth : goal.returns-in-Branch-clause-depth
returns-in-Branch-clause-depth g c = sym (depth-branch _ c.args.id _ c.in-Branch.ensures)

pub returns-in-Branch-clause-bound : goal.returns-in-Branch-clause-bound
returns-in-Branch-clause-bound g c = omega (arith, decision-bit _ c.args.self.now.diagram c.args.id c.in-Branch.branch c.in-Branch.ensures)
