use Rattle.std.proofs.Common.{arith, sym, ap, ◌∙◌}
use Rattle.occ_print.proofs.Declaring.{greatest_declaring}
use Rattle.occ_print.specs.Greatest.{greatest}
use Rattle.occ_syntax.proofs.Counting.{weight-declaring}
use Rattle.occ_syntax.proofs.Views.{tree-Seq, tree-Par, tree-If, tree-Alt}
use Rattle.occ_syntax.proofs.Weights.{weight, weight-seq, weight-par, weight-select, weight-alt, weight_in_all, weight_in_cases, weight_in_branches}
use Rattle.occ_syntax.specs.Tree.{seq, par, select, alt}
use Rattle.occ_syntax.specs.View.{tree, trees, cases, branches}
use Rattle.occ_print.proofs.greatest.+part.Goals as goal

pub of_part-loop-name-preserved : goal.of_part-loop-name-preserved
of_part-loop-name-preserved t c =
    let e = c.in-Some.ensures in
    let g = ap weight e ∙ weight-declaring _ _ _ in
    record {
      whole = ap (greatest (tree c.in-Some.body.now)) c.greater-found.ensures ∙ (sym (ap (λ p. greatest p c.loop-name.found) e ∙ greatest_declaring c.in-Some.name.0 c.in-Some.field-0-1 (tree c.in-Some.body.now) c.loop-name.found) ∙ c.loop-name.invariant.whole);
      left = omega (arith, g, c.loop-name.invariant.left);
    }

pub of_part-loop-name-smaller : goal.of_part-loop-name-smaller
of_part-loop-name-smaller t c =
    let e = c.in-Some.ensures in
    let g = ap weight e ∙ weight-declaring _ _ _ in
    omega (arith, g)

pub of_construct-of_parts-requires : goal.of_construct-of_parts-requires
of_construct-of_parts-requires t c =
    let e = weight-seq _ _ (ap tree c.in-Seq.is ∙ tree-Seq c.in-Seq.parts ∙ ap (λ ps. seq (trees ps)) (sym c.items-in-Seq.ensures)) in
    (omega (arith, e, c.decreases), tt)

pub of_construct-of_parts-requires-in-Par : goal.of_construct-of_parts-requires-in-Par
of_construct-of_parts-requires-in-Par t c =
    let e = weight-par _ _ (ap tree c.in-Par.is ∙ tree-Par c.in-Par.parts ∙ ap (λ ps. par (trees ps)) (sym c.items-in-Par.ensures)) in
    (omega (arith, e, c.decreases), tt)

pub of_construct-of_choices-requires : goal.of_construct-of_choices-requires
of_construct-of_choices-requires t c =
    let e = weight-select _ _ (ap tree c.in-If.is ∙ tree-If c.in-If.choices ∙ ap (λ cs. select (cases cs)) (sym c.items-in-If.ensures)) in
    (omega (arith, e, c.decreases), tt)

pub of_construct-of_alternatives-requires : goal.of_construct-of_alternatives-requires
of_construct-of_alternatives-requires t c =
    let e = weight-alt _ _ (ap tree c.in-Alt.is ∙ tree-Alt c.in-Alt.alternatives ∙ ap (λ bs. alt (branches bs)) (sym c.items-in-Alt.ensures)) in
    (omega (arith, e, c.decreases), tt)

pub of_construct-returns-in-Seq : goal.of_construct-returns-in-Seq
of_construct-returns-in-Seq t c =
    let e = ap tree c.in-Seq.is ∙ tree-Seq c.in-Seq.parts ∙ ap (λ ps. seq (trees ps)) (sym c.items-in-Seq.ensures) in
    c.of_parts.ensures ∙ sym (ap (λ p. greatest p c.args.most) e)

pub of_construct-returns-in-Par : goal.of_construct-returns-in-Par
of_construct-returns-in-Par t c =
    let e = ap tree c.in-Par.is ∙ tree-Par c.in-Par.parts ∙ ap (λ ps. par (trees ps)) (sym c.items-in-Par.ensures) in
    c.of_parts-in-Par.ensures ∙ sym (ap (λ p. greatest p c.args.most) e)

pub of_construct-returns-in-If : goal.of_construct-returns-in-If
of_construct-returns-in-If t c =
    let e = ap tree c.in-If.is ∙ tree-If c.in-If.choices ∙ ap (λ cs. select (cases cs)) (sym c.items-in-If.ensures) in
    c.of_choices.ensures ∙ sym (ap (λ p. greatest p c.args.most) e)

pub of_construct-returns-in-Alt : goal.of_construct-returns-in-Alt
of_construct-returns-in-Alt t c =
    let e = ap tree c.in-Alt.is ∙ tree-Alt c.in-Alt.alternatives ∙ ap (λ bs. alt (branches bs)) (sym c.items-in-Alt.ensures) in
    c.of_alternatives.ensures ∙ sym (ap (λ p. greatest p c.args.most) e)

pub of_parts-of_part-found-requires : goal.of_parts-of_part-found-requires
of_parts-of_part-found-requires t c = (omega (arith, weight_in_all _ _ _ c.loop-part-test.true c.part-item.is, c.decreases), tt)

pub of_choices-of_part-found-requires : goal.of_choices-of_part-found-requires
of_choices-of_part-found-requires t c = (omega (arith, weight_in_cases _ _ _ c.loop-condition-test.true c.loop-condition-item.is, c.decreases), tt)

pub of_alternatives-of_part-found-requires : goal.of_alternatives-of_part-found-requires
of_alternatives-of_part-found-requires t c = (omega (arith, weight_in_branches _ _ _ c.loop-guard-test.true c.loop-guard-item.is, c.decreases), tt)
