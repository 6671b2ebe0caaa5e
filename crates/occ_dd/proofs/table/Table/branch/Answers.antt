use Rattle.std.proofs.Common.{◌≡◌}
use Rattle.std.proofs.lemmas.Result.{IfOk-weaker}
use Rattle.std.specs.Prelude.{slice_get, Some}
use Rattle.occ_dd.specs.Diagram.{IsDiagram, IsSplit}
use Rattle.occ_dd.specs.declared.node.Node.TheVariants.{Branch}
use Rattle.occ_dd.proofs.Growth.{diagram_interned, turned_interned, keeps_interned, split_branch, fit_branch}
use Rattle.occ_dd.proofs.table.Table.branch.Goals as goal

diagram_after : (g : _) (c : goal.After-intern g) → IsDiagram c.intern.new.nodes.keys
diagram_after g c =
    diagram_interned c.args.self.now.nodes.keys c.intern.new.nodes.keys (Branch (record { bit = c.args.bit; low = c.args.low; high = c.args.high })) c.args.self.now.diagram
    (fit_branch c.args.self.now.nodes.keys (record { bit = c.args.bit; low = c.args.low; high = c.args.high }) (record { bit = c.requires.bit; low = c.requires.low.0; high = c.requires.high.0; low_depth = c.requires.low.1; high_depth = c.requires.high.1; differ = c.if-low-high.false }))
    c.intern.ensures.nodes

pub invariant_of-self : goal.invariant_of-self
invariant_of-self g c = record {
  diagram = diagram_after g c;
  flips_right = turned_interned c.args.self.now.nodes.keys c.intern.new.nodes.keys _ c.args.self.now.diagram c.intern.ensures.nodes c.args.self.now.flips c.args.self.now.flips_right;
}

pub returns-clause-keeps : goal.returns-clause-keeps
returns-clause-keeps g c = keeps_interned c.args.self.now.nodes.keys c.intern.new.nodes.keys _ c.intern.ensures.nodes

pub returns-clause-split : goal.returns-clause-split
returns-clause-split g c =
    IfOk-weaker c.intern.result (λ r. slice_get c.intern.new.nodes.keys r ≡ Some (Branch (record { bit = c.args.bit; low = c.args.low; high = c.args.high }))) (λ r. IsSplit c.intern.new.nodes.keys r c.args.bit c.args.low c.args.high)
    (λ r e. split_branch c.intern.new.nodes.keys c.self-1.given.0 r c.args.bit c.args.low c.args.high e) c.intern.ensures.place
