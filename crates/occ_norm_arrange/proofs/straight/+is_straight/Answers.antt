use Rattle.std.proofs.Common.{arith, ap, sym, ◌∙◌}
use Rattle.occ_syntax.specs.Tree.{select, seq}
use Rattle.occ_syntax.specs.View.{cases, tree, trees}
use Rattle.occ_syntax.proofs.Views.{tree-If, tree-Seq}
use Rattle.occ_syntax.proofs.Weights.{weight-select, weight-seq, weight_in_all, weight_in_cases}
use Rattle.occ_norm_arrange.specs.Straight.{straight}
use Rattle.occ_norm_arrange.proofs.straight.+is_straight.Goals as goal

pub is_straight-are_straight-requires : goal.is_straight-are_straight-requires
is_straight-are_straight-requires t c =
    let e = weight-seq _ _ (ap tree c.in-Seq.is ∙ tree-Seq c.in-Seq.parts ∙ ap (λ ps. seq (trees ps)) (sym c.items.ensures)) in
    (omega (arith, e, c.decreases), tt)

pub is_straight-leads_straight-requires : goal.is_straight-leads_straight-requires
is_straight-leads_straight-requires t c =
    let e = weight-select _ _ (ap tree c.in-If.is ∙ tree-If c.in-If.choices ∙ ap (λ ps. select (cases ps)) (sym c.items-in-If.ensures)) in
    (omega (arith, e, c.decreases), tt)

pub is_straight-returns-in-Seq : goal.is_straight-returns-in-Seq
is_straight-returns-in-Seq t c =
    c.are_straight.ensures ∙ sym (ap straight (ap tree c.in-Seq.is ∙ tree-Seq c.in-Seq.parts ∙ ap (λ ps. seq (trees ps)) (sym c.items.ensures)))

pub is_straight-returns-in-If : goal.is_straight-returns-in-If
is_straight-returns-in-If t c =
    c.leads_straight.ensures ∙ sym (ap straight (ap tree c.in-If.is ∙ tree-If c.in-If.choices ∙ ap (λ ps. select (cases ps)) (sym c.items-in-If.ensures)))

pub are_straight-is_straight-requires : goal.are_straight-is_straight-requires
are_straight-is_straight-requires t c = (omega (arith, weight_in_all _ _ _ c.loop-part-test.true c.part-item.is, c.decreases), tt)

pub leads_straight-is_straight-requires : goal.leads_straight-is_straight-requires
leads_straight-is_straight-requires t c = (omega (arith, weight_in_cases _ _ _ c.loop-condition-test.true c.loop-condition-item.is, c.decreases), tt)
