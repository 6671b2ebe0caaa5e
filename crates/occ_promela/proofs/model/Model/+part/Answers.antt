use Rattle.std.proofs.Common.{arith, ap, sym, ◌∙◌}
use Rattle.occ_syntax.specs.Tree.{seq, par, select, alt}
use Rattle.occ_syntax.specs.View.{tree, trees, cases, branches}
use Rattle.occ_syntax.proofs.Views.{tree-Seq, tree-Par, tree-If, tree-Alt}
use Rattle.occ_syntax.proofs.Weights.{weight, weight-seq, weight-par, weight-select, weight-alt, weight_in_all, weight_in_cases, weight_in_branches}
use Rattle.occ_syntax.proofs.Counting.{weight-declaring}
use Rattle.occ_promela.proofs.model.Model.+part.Goals as goal

pub put_row-put_part-requires : goal.put_row-put_part-requires
put_row-put_part-requires t c = (omega (arith, weight_in_all _ _ _ c.loop-part-test.true c.part-item.is, c.decreases), tt)

pub put_par-put_process-requires : goal.put_par-put_process-requires
put_par-put_process-requires t c = (omega (arith, weight_in_all _ _ _ c.loop-part-test.true c.part-item.is, c.decreases), tt)

pub put_choices-put_part-requires : goal.put_choices-put_part-requires
put_choices-put_part-requires t c = (omega (arith, weight_in_cases _ _ _ c.loop-condition-test.true c.loop-condition-item.is, c.decreases), tt)

pub put_branches-put_part-requires : goal.put_branches-put_part-requires
put_branches-put_part-requires t c = (omega (arith, weight_in_branches _ _ _ c.loop-guard-test.true c.loop-guard-item.is, c.decreases), tt)

pub put_part-loop-name-smaller : goal.put_part-loop-name-smaller
put_part-loop-name-smaller t c = omega (arith, ap weight c.in-Some.ensures ∙ weight-declaring _ _ _)

pub put_part-loop-name-preserved : goal.put_part-loop-name-preserved
put_part-loop-name-preserved t c = omega (arith, ap weight c.in-Some.ensures ∙ weight-declaring _ _ _, c.loop-name.invariant)

pub put_undeclared-put_row-requires : goal.put_undeclared-put_row-requires
put_undeclared-put_row-requires t c =
    let e = ap tree c.in-Seq.is ∙ tree-Seq c.in-Seq.parts ∙ ap (λ ps. seq (trees ps)) (sym c.items-in-Seq.ensures) in
    (omega (arith, weight-seq _ _ e, c.decreases), tt)

pub put_undeclared-put_par-requires : goal.put_undeclared-put_par-requires
put_undeclared-put_par-requires t c =
    let e = ap tree c.in-Par.is ∙ tree-Par c.in-Par.parts ∙ ap (λ ps. par (trees ps)) (sym c.items-in-Par.ensures) in
    (omega (arith, weight-par _ _ e, c.decreases), tt)

pub put_undeclared-put_choices-requires : goal.put_undeclared-put_choices-requires
put_undeclared-put_choices-requires t c =
    let e = ap tree c.in-If.is ∙ tree-If c.in-If.choices ∙ ap (λ cs. select (cases cs)) (sym c.items-in-If.ensures) in
    (omega (arith, weight-select _ _ e, c.decreases), tt)

pub put_undeclared-put_branches-requires : goal.put_undeclared-put_branches-requires
put_undeclared-put_branches-requires t c =
    let e = ap tree c.in-Alt.is ∙ tree-Alt c.in-Alt.alternatives ∙ ap (λ bs. alt (branches bs)) (sym c.items-in-Alt.ensures) in
    (omega (arith, weight-alt _ _ e, c.decreases), tt)
