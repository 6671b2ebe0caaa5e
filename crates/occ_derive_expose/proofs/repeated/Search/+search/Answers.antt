use Rattle.std.proofs.Common.{arith, ap, sym, ◌∙◌}
use Rattle.occ_syntax.specs.Tree.{seq, par, select, alt}
use Rattle.occ_syntax.specs.View.{tree, trees, cases, branches}
use Rattle.occ_syntax.proofs.Counting.{weight-declaring}
use Rattle.occ_syntax.proofs.Views.{tree-Seq, tree-Par, tree-If, tree-Alt}
use Rattle.occ_syntax.proofs.Weights.{weight, weight-seq, weight-par, weight-select, weight-alt, weight_in_all, weight_in_cases, weight_in_branches}
use Rattle.occ_derive_expose.proofs.repeated.Search.+search.Goals as goal

pub part-loop-name-smaller : goal.part-loop-name-smaller
part-loop-name-smaller t c =
    let g = ap weight c.in-Some.ensures ∙ weight-declaring _ _ _ in
    omega (arith, g)

pub part-loop-name-preserved : goal.part-loop-name-preserved
part-loop-name-preserved t c =
    let g = ap weight c.in-Some.ensures ∙ weight-declaring _ _ _ in
    omega (arith, g, c.loop-name.invariant)

pub undeclared-parts-requires : goal.undeclared-parts-requires
undeclared-parts-requires t c =
    let e = weight-seq _ _ (ap tree c.in-Seq.is ∙ tree-Seq c.in-Seq.parts ∙ ap (λ ps. seq (trees ps)) (sym c.items.ensures)) in
    (omega (arith, e, c.decreases), tt)

pub undeclared-parts-requires-in-Par : goal.undeclared-parts-requires-in-Par
undeclared-parts-requires-in-Par t c =
    let e = weight-par _ _ (ap tree c.in-Par.is ∙ tree-Par c.in-Par.parts ∙ ap (λ ps. par (trees ps)) (sym c.items-in-Par.ensures)) in
    (omega (arith, e, c.decreases), tt)

pub undeclared-choices-requires : goal.undeclared-choices-requires
undeclared-choices-requires t c =
    let e = weight-select _ _ (ap tree c.in-If.is ∙ tree-If c.in-If.choices ∙ ap (λ cs. select (cases cs)) (sym c.items-in-If.ensures)) in
    (omega (arith, e, c.decreases), tt)

pub undeclared-alternatives-requires : goal.undeclared-alternatives-requires
undeclared-alternatives-requires t c =
    let e = weight-alt _ _ (ap tree c.in-Alt.is ∙ tree-Alt c.in-Alt.alternatives ∙ ap (λ bs. alt (branches bs)) (sym c.items-in-Alt.ensures)) in
    (omega (arith, e, c.decreases), tt)

pub parts-child-requires : goal.parts-child-requires
parts-child-requires t c = (omega (arith, weight_in_all _ _ _ c.loop-part-test.true c.part-item.is, c.decreases), tt)

pub choices-child-requires : goal.choices-child-requires
choices-child-requires t c = (omega (arith, weight_in_cases _ _ _ c.loop-choice-test.true c.choice-item.is, c.decreases), tt)

pub alternatives-child-requires : goal.alternatives-child-requires
alternatives-child-requires t c = (omega (arith, weight_in_branches _ _ _ c.loop-alternative-test.true c.alternative-item.is, c.decreases), tt)
