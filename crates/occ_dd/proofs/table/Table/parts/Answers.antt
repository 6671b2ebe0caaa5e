use Rattle.std.proofs.Common.{◌≤◌, arith, subst}
use Rattle.occ_dd.specs.Diagram.{IsPart, depth_of}
use Rattle.occ_dd.specs.Table.{nodes_of}
use Rattle.occ_dd.proofs.DiagramLemmas.{depth-branch, depth-leaf, low_part, high_part, own_part}
use Rattle.occ_dd.proofs.table.Table.parts.Goals as goal

pub returns-in-Branch-clause-low : goal.returns-in-Branch-clause-low
returns-in-Branch-clause-low g c =
    subst (λ n. IsPart (nodes_of c.args.self.now) c.in-Branch.branch.low c.args.id n 0) c.if-branch-bit.true (low_part (nodes_of c.args.self.now) c.args.self.now.diagram c.args.id c.in-Branch.branch c.in-Branch.ensures)

pub returns-in-Branch-clause-high : goal.returns-in-Branch-clause-high
returns-in-Branch-clause-high g c =
    subst (λ n. IsPart (nodes_of c.args.self.now) c.in-Branch.branch.high c.args.id n 1) c.if-branch-bit.true (high_part (nodes_of c.args.self.now) c.args.self.now.diagram c.args.id c.in-Branch.branch c.in-Branch.ensures)

shallow : (g : _) (c : goal.Else-branch-bit g) → depth_of (nodes_of c.args.self.now) c.args.id ≤ c.args.bit
shallow g c = omega (arith, c.requires.top, c.if-branch-bit.false, depth-branch (nodes_of c.args.self.now) c.args.id c.in-Branch.branch c.in-Branch.ensures)

pub returns-in_default-clause-low : goal.returns-in_default-clause-low
returns-in_default-clause-low g c = own_part (nodes_of c.args.self.now) c.args.self.now.diagram c.args.id c.args.bit 0 c.requires.known (shallow g c)

pub returns-in_default-clause-high : goal.returns-in_default-clause-high
returns-in_default-clause-high g c = own_part (nodes_of c.args.self.now) c.args.self.now.diagram c.args.id c.args.bit 1 c.requires.known (shallow g c)

pub returns-in_default-2-clause-low : goal.returns-in_default-2-clause-low
returns-in_default-2-clause-low g c = own_part (nodes_of c.args.self.now) c.args.self.now.diagram c.args.id c.args.bit 0 c.requires.known (omega (arith, depth-leaf (nodes_of c.args.self.now) c.args.id _ c.in_default.ensures))

pub returns-in_default-2-clause-high : goal.returns-in_default-2-clause-high
returns-in_default-2-clause-high g c = own_part (nodes_of c.args.self.now) c.args.self.now.diagram c.args.id c.args.bit 1 c.requires.known (omega (arith, depth-leaf (nodes_of c.args.self.now) c.args.id _ c.in_default.ensures))
