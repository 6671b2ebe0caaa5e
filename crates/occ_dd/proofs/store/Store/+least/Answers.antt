use Rattle.std.proofs.Common.{◌<◌, subst, arith}
use Rattle.occ_dd.specs.Diagram.{depth_of}
use Rattle.occ_dd.specs.Table.{nodes_of}
use Rattle.occ_dd.proofs.DiagramLemmas.{low-smaller, high-smaller}
use Rattle.occ_dd.proofs.Least.{least_leaf, least_low, least_high, sum_fits, high_filled}
use Rattle.occ_dd.proofs.store.Store.+least.Goals as goal

pub overflow_shl-result : goal.overflow_shl-result
overflow_shl-result t c = let is = c.args.self.now.table.diagram.decisions c.args.id c.in-Branch.branch c.in-Branch.ensures in is.bit

pub least-requires : goal.least-requires
least-requires t c =
    let ns = nodes_of c.args.self.now.table in
    let is = c.args.self.now.table.diagram.decisions c.args.id c.in-Branch.branch c.in-Branch.ensures in
    (subst (λ n. depth_of ns c.in-Branch.branch.high < n) c.decreases (high-smaller ns c.args.self.now.table.diagram c.args.id c.in-Branch.branch c.in-Branch.ensures), (is.high, high_filled c.args.self.now c.args.id c.in-Branch.branch c.in-Branch.ensures c.if-branch-self.true))

pub overflow_add-result : goal.overflow_add-result
overflow_add-result t c = omega (arith, sum_fits c.args.self.now c.args.id c.in-Branch.branch c.in-Branch.ensures c.least.result c.least.ensures)

pub least-requires-in-Branch-2 : goal.least-requires-in-Branch-2
least-requires-in-Branch-2 t c =
    let ns = nodes_of c.args.self.now.table in
    let is = c.args.self.now.table.diagram.decisions c.args.id c.in-Branch.branch c.in-Branch.ensures in
    (subst (λ n. depth_of ns c.in-Branch.branch.low < n) c.decreases (low-smaller ns c.args.self.now.table.diagram c.args.id c.in-Branch.branch c.in-Branch.ensures), (is.low, c.if-branch-self.false))

pub returns-in-Leaf : goal.returns-in-Leaf
returns-in-Leaf t c = least_leaf c.args.self.now c.args.id _ c.in-Leaf.ensures c.requires.filled

pub returns-in-Branch : goal.returns-in-Branch
returns-in-Branch t c = least_high c.args.self.now c.args.id c.in-Branch.branch c.in-Branch.ensures c.least.result c.if-branch-self.true c.least.ensures

pub returns-in-Branch-2 : goal.returns-in-Branch-2
returns-in-Branch-2 t c = least_low c.args.self.now c.args.id c.in-Branch.branch c.in-Branch.ensures c.least-in-Branch-2.result c.least-in-Branch-2.ensures
