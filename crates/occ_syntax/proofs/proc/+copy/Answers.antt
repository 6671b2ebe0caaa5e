use Rattle.std.proofs.Common.{arith, ap, sym, ◌∙◌}
use Rattle.occ_syntax.specs.Tree.{seq, par, select, alt}
use Rattle.occ_syntax.specs.View.{tree, trees, cases, branches}
use Rattle.occ_syntax.proofs.Views.{tree-Seq, tree-Par, tree-If, tree-Alt}
use Rattle.occ_syntax.proofs.Weights.{weight, weight_of_all, weight_of_cases, weight_of_branches, weight-seq, weight-par, weight-select, weight-alt, weight_in_all, weight_in_cases, weight_in_branches}
use Rattle.occ_syntax.proofs.Counting.{weight-declaring}
use Rattle.occ_syntax.proofs.Rows.{choice, alternative, same_trees, same_cases, same_branches, copied_whole}
use Rattle.occ_syntax.proofs.Within.{one_off}
use Rattle.occ_syntax.proofs.proc.+copy.Goals as goal

pub Proc::copy-loop-name-smaller : goal.Proc::copy-loop-name-smaller
Proc::copy-loop-name-smaller t c =
    let g = ap weight c.in-Some.ensures ∙ weight-declaring _ _ _ in
    omega (arith, g)

pub Proc::copy-loop-name-preserved : goal.Proc::copy-loop-name-preserved
Proc::copy-loop-name-preserved t c =
    let g = ap weight c.in-Some.ensures ∙ weight-declaring _ _ _ in
    record {
      whole = one_off _ _ _ _ _ _ c.in_ok-push.ensures.ok c.in-Some.ensures c.loop-name.invariant.whole;
      left = omega (arith, g, c.loop-name.invariant.left);
    }

pub Proc::copy_undeclared-copy-requires-in-Seq : goal.Proc::copy_undeclared-copy-requires-in-Seq
Proc::copy_undeclared-copy-requires-in-Seq t c =
    let e = weight-seq _ _ (ap tree c.in-Seq.is ∙ tree-Seq c.in-Seq.parts) in
    (omega (arith, e, c.decreases), tt)

pub Proc::copy_undeclared-returns-in_ok-copy-in-Seq : goal.Proc::copy_undeclared-returns-in_ok-copy-in-Seq
Proc::copy_undeclared-returns-in_ok-copy-in-Seq t c =
    tree-Seq _ ∙ ap seq c.in_ok-copy-in-Seq.ensures ∙ sym (ap tree c.in-Seq.is ∙ tree-Seq c.in-Seq.parts)

pub Proc::copy_undeclared-copy-requires-in-Par : goal.Proc::copy_undeclared-copy-requires-in-Par
Proc::copy_undeclared-copy-requires-in-Par t c =
    let e = weight-par _ _ (ap tree c.in-Par.is ∙ tree-Par c.in-Par.parts) in
    (omega (arith, e, c.decreases), tt)

pub Proc::copy_undeclared-returns-in_ok-copy-in-Par : goal.Proc::copy_undeclared-returns-in_ok-copy-in-Par
Proc::copy_undeclared-returns-in_ok-copy-in-Par t c =
    tree-Par _ ∙ ap par c.in_ok-copy-in-Par.ensures ∙ sym (ap tree c.in-Par.is ∙ tree-Par c.in-Par.parts)

pub Proc::copy_undeclared-copy-requires-in-If : goal.Proc::copy_undeclared-copy-requires-in-If
Proc::copy_undeclared-copy-requires-in-If t c =
    let e = weight-select _ _ (ap tree c.in-If.is ∙ tree-If c.in-If.choices) in
    (omega (arith, e, c.decreases), tt)

pub Proc::copy_undeclared-returns-in_ok-copy-in-If : goal.Proc::copy_undeclared-returns-in_ok-copy-in-If
Proc::copy_undeclared-returns-in_ok-copy-in-If t c =
    tree-If _ ∙ ap select c.in_ok-copy-in-If.ensures ∙ sym (ap tree c.in-If.is ∙ tree-If c.in-If.choices)

pub Proc::copy_undeclared-copy-requires-in-Alt : goal.Proc::copy_undeclared-copy-requires-in-Alt
Proc::copy_undeclared-copy-requires-in-Alt t c =
    let e = weight-alt _ _ (ap tree c.in-Alt.is ∙ tree-Alt c.in-Alt.alternatives) in
    (omega (arith, e, c.decreases), tt)

pub Proc::copy_undeclared-returns-in_ok-copy-in-Alt : goal.Proc::copy_undeclared-returns-in_ok-copy-in-Alt
Proc::copy_undeclared-returns-in_ok-copy-in-Alt t c =
    tree-Alt _ ∙ ap alt c.in_ok-copy-in-Alt.ensures ∙ sym (ap tree c.in-Alt.is ∙ tree-Alt c.in-Alt.alternatives)

pub Procs::copy-copy-requires : goal.Procs::copy-copy-requires
Procs::copy-copy-requires t c =
    let e = ap (λ xs. weight_of_all (trees xs)) c.items-part-items.ensures in
    (omega (arith, weight_in_all _ _ _ c.loop-part-test.true c.part-item.is, e, c.decreases), tt)

pub Procs::copy-returns : goal.Procs::copy-returns
Procs::copy-returns t c = same_trees _ _ (copied_whole tree _ _ _ _ c.loop-part-test.false c.items-part-items.ensures c.loop-part.invariant)

pub Choices::copy-copy-requires-in-loop-condition : goal.Choices::copy-copy-requires-in-loop-condition
Choices::copy-copy-requires-in-loop-condition t c =
    let e = ap (λ xs. weight_of_cases (cases xs)) c.items-condition-items.ensures in
    (omega (arith, weight_in_cases _ _ _ c.loop-condition-test.true c.loop-condition-item.is, e, c.decreases), tt)

pub Choices::copy-returns : goal.Choices::copy-returns
Choices::copy-returns t c = same_cases _ _ (copied_whole choice _ _ _ _ c.loop-condition-test.false c.items-condition-items.ensures c.loop-condition.invariant)

pub Alternatives::copy-copy-requires-in-loop-guard : goal.Alternatives::copy-copy-requires-in-loop-guard
Alternatives::copy-copy-requires-in-loop-guard t c =
    let e = ap (λ xs. weight_of_branches (branches xs)) c.items-guard-items.ensures in
    (omega (arith, weight_in_branches _ _ _ c.loop-guard-test.true c.loop-guard-item.is, e, c.decreases), tt)

pub Alternatives::copy-returns : goal.Alternatives::copy-returns
Alternatives::copy-returns t c = same_branches _ _ (copied_whole alternative _ _ _ _ c.loop-guard-test.false c.items-guard-items.ensures c.loop-guard.invariant)
