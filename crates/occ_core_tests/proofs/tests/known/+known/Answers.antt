use Rattle.std.proofs.Common.{arith, ap, sym, ◌∙◌, subst}
use Rattle.occ_syntax.specs.Tree.{seq, par, select, alt}
use Rattle.occ_syntax.specs.View.{tree, trees, cases, branches}
use Rattle.occ_syntax.proofs.Views.{tree-Seq, tree-Par, tree-If, tree-Alt}
use Rattle.occ_syntax.proofs.Weights.{weight, weight-seq, weight-par, weight-select, weight-alt, weight_in_all, weight_in_cases, weight_in_branches}
use Rattle.occ_gen.specs.occ_print.Known.{PartIsKnown}
use Rattle.occ_core_tests.proofs.tests.known.+known.Goals as goal

pub parts_below-part_below-requires : goal.parts_below-part_below-requires
parts_below-part_below-requires t c = (omega (arith, weight_in_all _ _ _ c.loop-part-test.true c.part-item.is, c.decreases), tt)

pub choices_below-part_below-requires : goal.choices_below-part_below-requires
choices_below-part_below-requires t c = (omega (arith, weight_in_cases _ _ _ c.loop-condition-test.true c.loop-condition-item.is, c.decreases), tt)

pub alternatives_below-part_below-requires : goal.alternatives_below-part_below-requires
alternatives_below-part_below-requires t c = (omega (arith, weight_in_branches _ _ _ c.loop-guard-test.true c.loop-guard-item.is, c.decreases), tt)

pub part_below-part_below-requires : goal.part_below-part_below-requires
unfolding tree weight
part_below-part_below-requires t c =
    let e = ap (λ p. weight (tree p)) c.in-Var.is in
    (omega (arith, e, c.decreases, ap (λ p. weight (tree p)) c.deref.ensures), tt)

pub part_below-part_below-requires-then-name-count-2 : goal.part_below-part_below-requires-then-name-count-2
unfolding tree weight
part_below-part_below-requires-then-name-count-2 t c =
    let e = ap (λ p. weight (tree p)) c.in-Chan.is in
    (omega (arith, e, c.decreases, ap (λ p. weight (tree p)) c.deref-then-name-count-2.ensures), tt)

pub part_below-parts_below-requires : goal.part_below-parts_below-requires
part_below-parts_below-requires t c =
    let e = weight-seq _ _ (ap tree c.in-Seq.is ∙ tree-Seq c.in-Seq.parts ∙ ap (λ ps. seq (trees ps)) (sym c.items-in-Seq.ensures)) in
    (omega (arith, e, c.decreases), tt)

pub part_below-returns-in-Seq : goal.part_below-returns-in-Seq
part_below-returns-in-Seq t c = λ h. subst (PartIsKnown c.args.count) (sym (ap tree c.in-Seq.is ∙ tree-Seq c.in-Seq.parts ∙ ap (λ ps. seq (trees ps)) (sym c.items-in-Seq.ensures))) (c.parts_below.ensures h)

pub part_below-parts_below-requires-in-Par : goal.part_below-parts_below-requires-in-Par
part_below-parts_below-requires-in-Par t c =
    let e = weight-par _ _ (ap tree c.in-Par.is ∙ tree-Par c.in-Par.parts ∙ ap (λ ps. par (trees ps)) (sym c.items-in-Par.ensures)) in
    (omega (arith, e, c.decreases), tt)

pub part_below-returns-in-Par : goal.part_below-returns-in-Par
part_below-returns-in-Par t c = λ h. subst (PartIsKnown c.args.count) (sym (ap tree c.in-Par.is ∙ tree-Par c.in-Par.parts ∙ ap (λ ps. par (trees ps)) (sym c.items-in-Par.ensures))) (c.parts_below-in-Par.ensures h)

pub part_below-choices_below-requires : goal.part_below-choices_below-requires
part_below-choices_below-requires t c =
    let e = weight-select _ _ (ap tree c.in-If.is ∙ tree-If c.in-If.choices ∙ ap (λ ps. select (cases ps)) (sym c.items-in-If.ensures)) in
    (omega (arith, e, c.decreases), tt)

pub part_below-returns-in-If : goal.part_below-returns-in-If
part_below-returns-in-If t c = λ h. subst (PartIsKnown c.args.count) (sym (ap tree c.in-If.is ∙ tree-If c.in-If.choices ∙ ap (λ ps. select (cases ps)) (sym c.items-in-If.ensures))) (c.choices_below.ensures h)

pub part_below-alternatives_below-requires : goal.part_below-alternatives_below-requires
part_below-alternatives_below-requires t c =
    let e = weight-alt _ _ (ap tree c.in-Alt.is ∙ tree-Alt c.in-Alt.alternatives ∙ ap (λ ps. alt (branches ps)) (sym c.items-in-Alt.ensures)) in
    (omega (arith, e, c.decreases), tt)

pub part_below-returns-in-Alt : goal.part_below-returns-in-Alt
part_below-returns-in-Alt t c = λ h. subst (PartIsKnown c.args.count) (sym (ap tree c.in-Alt.is ∙ tree-Alt c.in-Alt.alternatives ∙ ap (λ ps. alt (branches ps)) (sym c.items-in-Alt.ensures))) (c.alternatives_below.ensures h)
