use Rattle.std.proofs.Common.{◌≡◌, ◌∙◌, sym, ap, ⊎_elim}
use Rattle.std.specs.Int.{bit_at}
use Rattle.std.proofs.lemmas.Nat.Bits.{shr_and_one}
use Rattle.occ_dd.specs.Diagram.{label_of}
use Rattle.occ_dd.specs.Table.{nodes_of}
use Rattle.occ_dd.proofs.Bits.{bit_cases}
use Rattle.occ_dd.proofs.DiagramLemmas.{decision-bit, end-leaf, label-leaf, low-smaller, high-smaller, low_part, high_part}
use Rattle.occ_dd.proofs.table.Table.label.Goals as goal

pub returns-in-Leaf : goal.returns-in-Leaf
returns-in-Leaf g c =
    let ns = nodes_of c.args.self.now in
    ap (label_of ns) (sym c.loop-label.invariant.1 ∙ end-leaf ns c.args.self.now.diagram c.loop-label.at c.args.bits c.in-Leaf.label c.in-Leaf.ensures)
    ∙ label-leaf ns c.args.self.now.diagram c.loop-label.at c.in-Leaf.label c.in-Leaf.ensures

pub overflow_shr-bits : goal.overflow_shr-bits
overflow_shr-bits g c = decision-bit (nodes_of c.args.self.now) c.args.self.now.diagram _ c.in-Branch.branch c.in-Branch.ensures

pub loop-label-smaller-then-bits-branch-eq1 : goal.loop-label-smaller-then-bits-branch-eq1
loop-label-smaller-then-bits-branch-eq1 g c = high-smaller (nodes_of c.args.self.now) c.args.self.now.diagram c.loop-label.at c.in-Branch.branch c.in-Branch.ensures

pub loop-label-preserved-then-bits-branch-eq1 : goal.loop-label-preserved-then-bits-branch-eq1
loop-label-preserved-then-bits-branch-eq1 g c =
    let part = high_part (nodes_of c.args.self.now) c.args.self.now.diagram c.loop-label.at c.in-Branch.branch c.in-Branch.ensures in
    let one : bit_at c.args.bits c.in-Branch.branch.bit ≡ 1 = sym (shr_and_one c.args.bits c.in-Branch.branch.bit) ∙ c.if-bits-branch-eq1.true in
    (part.known, part.ends c.args.bits one ∙ c.loop-label.invariant.1)

pub loop-label-smaller : goal.loop-label-smaller
loop-label-smaller g c = low-smaller (nodes_of c.args.self.now) c.args.self.now.diagram c.loop-label.at c.in-Branch.branch c.in-Branch.ensures

pub loop-label-preserved : goal.loop-label-preserved
loop-label-preserved g c =
    let part = low_part (nodes_of c.args.self.now) c.args.self.now.diagram c.loop-label.at c.in-Branch.branch c.in-Branch.ensures in
    let zero_there : bit_at c.args.bits c.in-Branch.branch.bit ≡ 0 =
    ⊎_elim (λ h. h) (λ h. absurd (c.if-bits-branch-eq1.false (shr_and_one c.args.bits c.in-Branch.branch.bit ∙ h))) (bit_cases c.args.bits c.in-Branch.branch.bit) in
    (part.known, part.ends c.args.bits zero_there ∙ c.loop-label.invariant.1)
