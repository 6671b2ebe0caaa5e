use Rattle.std.proofs.Common.{arith, ap, sym, ◌∙◌}
use Rattle.occ_syntax.specs.Tree.{seq, par, select, alt}
use Rattle.occ_syntax.specs.View.{tree, trees, cases, branches}
use Rattle.occ_syntax.proofs.Views.{tree-Seq, tree-Par, tree-If, tree-Alt}
use Rattle.occ_syntax.proofs.Weights.{weight, weight-seq, weight-par, weight-select, weight-alt, weight_in_all, weight_in_cases, weight_in_branches}
use Rattle.occ_syntax.proofs.Counting.{weight-declaring}
use Rattle.occ_place.proofs.marking.Marker.+mark.Goals as goal

pub parts-part-requires : goal.parts-part-requires
parts-part-requires t c = (omega (arith, weight_in_all _ _ _ c.loop-part-test.true c.part-item.is, c.decreases), tt)

pub choices-part-requires : goal.choices-part-requires
choices-part-requires t c = (omega (arith, weight_in_cases _ _ _ c.loop-condition-test.true c.loop-condition-item.is, c.decreases), tt)

pub alternatives-part-requires : goal.alternatives-part-requires
alternatives-part-requires t c = (omega (arith, weight_in_branches _ _ _ c.loop-guard-test.true c.loop-guard-item.is, c.decreases), tt)

pub part-loop-name-smaller : goal.part-loop-name-smaller
part-loop-name-smaller t c = omega (arith, ap weight c.in-Some.ensures ∙ weight-declaring _ _ _)

pub part-loop-name-preserved : goal.part-loop-name-preserved
part-loop-name-preserved t c = omega (arith, ap weight c.in-Some.ensures ∙ weight-declaring _ _ _, c.loop-name.invariant)

pub undeclared-parts-requires : goal.undeclared-parts-requires
undeclared-parts-requires t c =
    let e = ap tree c.in-Seq.is ∙ tree-Seq c.in-Seq.parts ∙ ap (λ ps. seq (trees ps)) (sym c.items.ensures) in
    (omega (arith, weight-seq _ _ e, c.decreases), tt)

pub undeclared-parts-requires-in-Par : goal.undeclared-parts-requires-in-Par
undeclared-parts-requires-in-Par t c =
    let e = ap tree c.in-Par.is ∙ tree-Par c.in-Par.parts ∙ ap (λ ps. par (trees ps)) (sym c.items-in-Par.ensures) in
    (omega (arith, weight-par _ _ e, c.decreases), tt)

pub undeclared-choices-requires : goal.undeclared-choices-requires
undeclared-choices-requires t c =
    let e = ap tree c.in-If.is ∙ tree-If c.in-If.choices ∙ ap (λ cs. select (cases cs)) (sym c.items-in-If.ensures) in
    (omega (arith, weight-select _ _ e, c.decreases), tt)

pub undeclared-alternatives-requires : goal.undeclared-alternatives-requires
undeclared-alternatives-requires t c =
    let e = ap tree c.in-Alt.is ∙ tree-Alt c.in-Alt.alternatives ∙ ap (λ bs. alt (branches bs)) (sym c.items-in-Alt.ensures) in
    (omega (arith, weight-alt _ _ e, c.decreases), tt)
