use Rattle.std.proofs.Common.{◌≡◌, ◌∙◌, ◌<◌, sym, arith, subst}
use Rattle.std.proofs.lemmas.Result.{IfOk-weaker}
use Rattle.occ_dd.specs.Diagram.{depth_of, IsTurned, IsSplit}
use Rattle.occ_dd.specs.Table.{nodes_of}
use Rattle.occ_dd.proofs.DiagramLemmas.{depth-branch, depth-leaf, low-smaller, high-smaller}
use Rattle.occ_dd.proofs.Growth.{turned_free, turned_at, turned_learnt, depth-keeps, known-keeps, low_side, high_side, both_sides}
use Rattle.occ_dd.proofs.table.Table.+flip.Goals as goal

pub returns-in_default-clause-turned : goal.returns-in_default-clause-turned
returns-in_default-clause-turned g t c =
    let ns = nodes_of c.args.self.now in
    turned_free ns c.args.self.now.diagram c.args.id c.args.bit c.requires.known (omega (arith, c.if-branch-bit.false, depth-branch ns c.args.id c.in-Branch.branch c.in-Branch.ensures))

pub returns-in_default-2-clause-turned : goal.returns-in_default-2-clause-turned
returns-in_default-2-clause-turned g t c =
    let ns = nodes_of c.args.self.now in
    turned_free ns c.args.self.now.diagram c.args.id c.args.bit c.requires.known (omega (arith, depth-leaf ns c.args.id _ c.in_default.ensures))

pub branch-self-requires-clause-low : goal.branch-self-requires-clause-low
branch-self-requires-clause-low g t c =
    let is = c.args.self.now.diagram.decisions c.args.id c.in-Branch.branch c.in-Branch.ensures in
    (is.high, omega (arith, is.high_depth, c.if-branch-bit-2.true))

pub branch-self-requires-clause-high : goal.branch-self-requires-clause-high
branch-self-requires-clause-high g t c =
    let is = c.args.self.now.diagram.decisions c.args.id c.in-Branch.branch c.in-Branch.ensures in
    (is.low, omega (arith, is.low_depth, c.if-branch-bit-2.true))

pub returns-then-branch-bit-2-clause-turned : goal.returns-then-branch-bit-2-clause-turned
returns-then-branch-bit-2-clause-turned g t c =
    let ns = nodes_of c.branch-self.new.self in
    IfOk-weaker c.branch-self.result (λ r. IsSplit ns r c.args.bit c.in-Branch.branch.high c.in-Branch.branch.low) (λ r. IsTurned ns c.args.id c.args.bit r)
    (λ r split. turned_at ns c.branch-self.new.self.diagram c.args.id r c.args.bit c.in-Branch.branch (c.branch-self.ensures.keeps.same c.args.id c.requires.known ∙ c.in-Branch.ensures) c.if-branch-bit-2.true split)
    c.branch-self.ensures.split

pub returns-in-Some-clause-turned : goal.returns-in-Some-clause-turned
returns-in-Some-clause-turned g t c =
    c.args.self.now.flips_right (record { first = c.args.id; second = c.args.bit; third = 0 }) c.in-Some.turned (sym c.in-Some.ensures)

pub flip-requires : goal.flip-requires
flip-requires g t c κs within =
    let ns = nodes_of c.args.self.now in
    let is = c.args.self.now.diagram.decisions c.args.id c.in-Branch.branch c.in-Branch.ensures in
    (subst (λ n. depth_of ns c.in-Branch.branch.low < n) c.decreases (low-smaller ns c.args.self.now.diagram c.args.id c.in-Branch.branch c.in-Branch.ensures), (within, (c.requires.bit, is.low)))

pub flip-requires-2 : goal.flip-requires-2
flip-requires-2 g t c κs within =
    let ns = nodes_of c.args.self.now in
    let is = c.args.self.now.diagram.decisions c.args.id c.in-Branch.branch c.in-Branch.ensures in
    let kept : depth_of (nodes_of c.flip.new.self) c.in-Branch.branch.high ≡ depth_of ns c.in-Branch.branch.high = depth-keeps ns (nodes_of c.flip.new.self) c.flip.ensures.keeps c.in-Branch.branch.high is.high in
    (subst (λ n. n < t) (sym kept) (subst (λ n. depth_of ns c.in-Branch.branch.high < n) c.decreases (high-smaller ns c.args.self.now.diagram c.args.id c.in-Branch.branch c.in-Branch.ensures)), (within, (c.requires.bit, known-keeps ns (nodes_of c.flip.new.self) c.flip.ensures.keeps _ is.high)))

pub branch-self-requires-2-clause-low : goal.branch-self-requires-2-clause-low
branch-self-requires-2-clause-low g t c = low_side (nodes_of c.args.self.now) (nodes_of c.flip.new.self) (nodes_of c.flip-2.new.self) c.args.self.now.diagram c.flip.new.self.diagram c.flip-2.new.self.diagram c.flip.ensures.keeps c.flip-2.ensures.keeps c.args.id c.args.bit c.in-Branch.branch c.in-Branch.ensures c.in_ok-low.low c.in_ok-low.ensures.turned

pub branch-self-requires-2-clause-high : goal.branch-self-requires-2-clause-high
branch-self-requires-2-clause-high g t c = high_side (nodes_of c.args.self.now) (nodes_of c.flip.new.self) (nodes_of c.flip-2.new.self) c.args.self.now.diagram c.flip.new.self.diagram c.flip-2.new.self.diagram c.flip.ensures.keeps c.flip-2.ensures.keeps c.args.id c.args.bit c.in-Branch.branch c.in-Branch.ensures c.in_ok-high.high c.in_ok-high.ensures.turned

pub invariant_of-self : goal.invariant_of-self
invariant_of-self g t c = record {
  diagram = c.branch-self-2.new.self.diagram;
  flips_right = turned_learnt (nodes_of c.branch-self-2.new.self) c.branch-self-2.new.self.diagram c.branch-self-2.new.self.flips c.insert.new.self (record { first = c.args.id; second = c.args.bit; third = 0 }) c.in_ok-turned.turned c.insert.ensures c.branch-self-2.new.self.flips_right (both_sides (nodes_of c.args.self.now) (nodes_of c.flip.new.self) (nodes_of c.flip-2.new.self) c.args.self.now.diagram c.flip.new.self.diagram c.flip-2.new.self.diagram c.flip.ensures.keeps c.flip-2.ensures.keeps c.args.id c.args.bit c.in-Branch.branch c.in-Branch.ensures (nodes_of c.branch-self-2.new.self) c.branch-self-2.new.self.diagram c.branch-self-2.ensures.keeps c.if-branch-bit-2.false c.in_ok-low.low c.in_ok-high.high c.in_ok-turned.turned c.in_ok-low.ensures.turned c.in_ok-high.ensures.turned c.in_ok-turned.ensures.split);
}

pub returns-clause-turned : goal.returns-clause-turned
returns-clause-turned g t c = both_sides (nodes_of c.args.self.now) (nodes_of c.flip.new.self) (nodes_of c.flip-2.new.self) c.args.self.now.diagram c.flip.new.self.diagram c.flip-2.new.self.diagram c.flip.ensures.keeps c.flip-2.ensures.keeps c.args.id c.args.bit c.in-Branch.branch c.in-Branch.ensures (nodes_of c.branch-self-2.new.self) c.branch-self-2.new.self.diagram c.branch-self-2.ensures.keeps c.if-branch-bit-2.false c.in_ok-low.low c.in_ok-high.high c.in_ok-turned.turned c.in_ok-low.ensures.turned c.in_ok-high.ensures.turned c.in_ok-turned.ensures.split
