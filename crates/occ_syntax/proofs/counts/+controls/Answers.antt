use Rattle.std.proofs.Common.{◌+◌, arith, sym, ap, ◌∙◌}
use Rattle.std.specs.List.{sum_by}
use Rattle.std.proofs.lemmas.List.{take_all}
use Rattle.occ_syntax.specs.declared.expr.Expr.{Expr}
use Rattle.occ_syntax.specs.declared.expr.Guard.{Guard}
use Rattle.occ_syntax.specs.declared.proc.Proc.{Proc}
use Rattle.occ_syntax.specs.Tree.{seq, par, select, alt}
use Rattle.occ_syntax.specs.View.{tree, trees, cases, branches}
use Rattle.occ_syntax.specs.Counts.{capped, controls}
use Rattle.occ_syntax.proofs.Views.{tree-Seq, tree-Par, tree-If, tree-Alt}
use Rattle.occ_syntax.proofs.Weights.{weight, weight-seq, weight-par, weight-select, weight-alt, weight_in_all, weight_in_cases, weight_in_branches}
use Rattle.occ_syntax.proofs.Sums.{sum_of_all, sum_of_cases, sum_of_branches}
use Rattle.occ_syntax.proofs.Counting.{controls-declaring, weight-declaring, one_more}
use Rattle.occ_syntax.proofs.counts.+controls.Goals as goal

pub controls-loop-body-preserved : goal.controls-loop-body-preserved
controls-loop-body-preserved t c =
    let e = c.in-Some.ensures in
    let f = ap controls e ∙ controls-declaring _ _ _ in
    let g = ap weight e ∙ weight-declaring _ _ _ in
    record { whole = omega (arith, f, c.loop-body.invariant.whole, c.saturating_add-count.ensures); left = omega (arith, g, c.loop-body.invariant.left) }

pub controls-loop-body-smaller : goal.controls-loop-body-smaller
controls-loop-body-smaller t c =
    let e = c.in-Some.ensures in
    let g = ap weight e ∙ weight-declaring _ _ _ in
    omega (arith, g)

pub controls_of_one-controls_of_all-requires : goal.controls_of_one-controls_of_all-requires
controls_of_one-controls_of_all-requires t c =
    let e = weight-seq _ _ (ap tree c.in-Seq.is ∙ tree-Seq c.in-Seq.parts ∙ ap (λ ps. seq (trees ps)) (sym c.items.ensures)) in
    (omega (arith, e, c.decreases), tt)

pub controls_of_one-controls_of_all-requires-in-Par : goal.controls_of_one-controls_of_all-requires-in-Par
controls_of_one-controls_of_all-requires-in-Par t c =
    let e = weight-par _ _ (ap tree c.in-Par.is ∙ tree-Par c.in-Par.parts ∙ ap (λ ps. par (trees ps)) (sym c.items-in-Par.ensures)) in
    (omega (arith, e, c.decreases), tt)

pub controls_of_one-controls_of_choices-requires : goal.controls_of_one-controls_of_choices-requires
controls_of_one-controls_of_choices-requires t c =
    let e = weight-select _ _ (ap tree c.in-If.is ∙ tree-If c.in-If.choices ∙ ap (λ cs. select (cases cs)) (sym c.items-in-If.ensures)) in
    (omega (arith, e, c.decreases), tt)

pub controls_of_one-controls_of_alternatives-requires : goal.controls_of_one-controls_of_alternatives-requires
controls_of_one-controls_of_alternatives-requires t c =
    let e = weight-alt _ _ (ap tree c.in-Alt.is ∙ tree-Alt c.in-Alt.alternatives ∙ ap (λ bs. alt (branches bs)) (sym c.items-in-Alt.ensures)) in
    (omega (arith, e, c.decreases), tt)

pub controls_of_one-controls-requires : goal.controls_of_one-controls-requires
unfolding tree weight
controls_of_one-controls-requires t c =
    let e = ap (λ p. weight (tree p)) c.in-Var.is in
    (omega (arith, e, c.decreases, ap (λ p. weight (tree p)) c.deref.ensures), tt)

pub controls_of_one-controls-requires-in-Chan : goal.controls_of_one-controls-requires-in-Chan
unfolding tree weight
controls_of_one-controls-requires-in-Chan t c =
    let e = ap (λ p. weight (tree p)) c.in-Chan.is in
    (omega (arith, e, c.decreases, ap (λ p. weight (tree p)) c.deref-in-Chan.ensures), tt)

pub controls_of_one-returns-in-Seq : goal.controls_of_one-returns-in-Seq
controls_of_one-returns-in-Seq t c =
    let e = ap tree c.in-Seq.is ∙ tree-Seq c.in-Seq.parts ∙ ap (λ ps. seq (trees ps)) (sym c.items.ensures) in
    one_more _ _ _ _ c.controls_of_all.ensures c.saturating_add.ensures (ap controls e)

pub controls_of_one-returns-in-Par : goal.controls_of_one-returns-in-Par
controls_of_one-returns-in-Par t c =
    let e = ap tree c.in-Par.is ∙ tree-Par c.in-Par.parts ∙ ap (λ ps. par (trees ps)) (sym c.items-in-Par.ensures) in
    one_more _ _ _ _ c.controls_of_all-in-Par.ensures c.saturating_add-in-Par.ensures (ap controls e)

pub controls_of_one-returns-in-If : goal.controls_of_one-returns-in-If
controls_of_one-returns-in-If t c =
    let e = ap tree c.in-If.is ∙ tree-If c.in-If.choices ∙ ap (λ cs. select (cases cs)) (sym c.items-in-If.ensures) in
    one_more _ _ _ _ c.controls_of_choices.ensures c.saturating_add-in-If.ensures (ap controls e)

pub controls_of_one-returns-in-Alt : goal.controls_of_one-returns-in-Alt
controls_of_one-returns-in-Alt t c =
    let e = ap tree c.in-Alt.is ∙ tree-Alt c.in-Alt.alternatives ∙ ap (λ bs. alt (branches bs)) (sym c.items-in-Alt.ensures) in
    one_more _ _ _ _ c.controls_of_alternatives.ensures c.saturating_add-in-Alt.ensures (ap controls e)

pub controls_of_all-controls-requires : goal.controls_of_all-controls-requires
controls_of_all-controls-requires t c = (omega (arith, weight_in_all _ _ _ c.loop-part-test.true c.part-item.is, c.decreases), tt)

pub controls_of_all-returns : goal.controls_of_all-returns
controls_of_all-returns t c = c.loop-part.invariant ∙ ap capped (ap (sum_by (λ p. controls (tree p))) (take_all _ _ c.loop-part-test.false) ∙ sym (sum_of_all _))

pub controls_of_choices-controls-requires : goal.controls_of_choices-controls-requires
controls_of_choices-controls-requires t c = (omega (arith, weight_in_cases _ _ _ c.loop-part-test.true c.loop-part-item.is, c.decreases), tt)

pub controls_of_choices-returns : goal.controls_of_choices-returns
controls_of_choices-returns t c = c.loop-part.invariant ∙ ap capped (ap (sum_by (λ (d : Expr × Proc). 1 + controls (tree d.1))) (take_all _ _ c.loop-part-test.false) ∙ sym (sum_of_cases _))

pub controls_of_alternatives-controls-requires : goal.controls_of_alternatives-controls-requires
controls_of_alternatives-controls-requires t c = (omega (arith, weight_in_branches _ _ _ c.loop-part-test.true c.loop-part-item.is, c.decreases), tt)

pub controls_of_alternatives-returns : goal.controls_of_alternatives-returns
controls_of_alternatives-returns t c = c.loop-part.invariant ∙ ap capped (ap (sum_by (λ (d : Guard × Proc). 1 + controls (tree d.1))) (take_all _ _ c.loop-part-test.false) ∙ sym (sum_of_branches _))
