use Rattle.std.proofs.Common.{◌≡◌, ◌++◌, List, IfOk, IfNone, arith, ap, sym, ◌∙◌, subst}
use Rattle.occ_syntax.specs.occ_base.declared.names.Name.{Name}
use Rattle.occ_syntax.specs.Tree.{seq, par, select, alt}
use Rattle.occ_syntax.specs.View.{numbers, tree, trees, cases, branches}
use Rattle.occ_syntax.proofs.Views.{tree-Seq, tree-Par, tree-If, tree-Alt}
use Rattle.occ_syntax.proofs.Weights.{weight, weight-seq, weight-par, weight-select, weight-alt, weight_in_all, weight_in_cases, weight_in_branches}
use Rattle.occ_syntax.proofs.Counting.{weight-declaring}
use Rattle.occ_usage.specs.Faults.{first, faults, after, after_all, after_cases, after_branches, faults_of_all, faults_of_cases, faults_of_branches, variable_faults, end_faults, shared_variable, shared_end}
use Rattle.occ_usage.proofs.Law.{some_then, none_then, further_in, behind, names_kept, names_longer}
use Rattle.occ_usage.proofs.checker.Checker.+check.Goals as goal

pub part-loop-name-smaller : goal.part-loop-name-smaller
part-loop-name-smaller t c =
    let g = ap weight c.in-Some.ensures ∙ weight-declaring _ _ _ in
    omega (arith, g)

pub part-loop-name-preserved : goal.part-loop-name-preserved
part-loop-name-preserved t c =
    let g = ap weight c.in-Some.ensures ∙ weight-declaring _ _ _ in
    let inv = c.loop-name.invariant in
    record {
      found = further_in _ _ _ _ _ _ _ _ _ c.in-Some.ensures c.saturating_add-self.ensures c.in_ok-push.ensures.items inv.found;
      next = behind _ _ _ _ _ _ _ c.in-Some.ensures c.saturating_add-self.ensures inv.next;
      names = names_kept _ _ _ _ _ inv.longer c.in_ok-push.ensures.items inv.names;
      longer = names_longer _ _ _ _ inv.longer c.in_ok-push.ensures.items;
      left = omega (arith, g, inv.left);
    }

pub undeclared-parts-requires : goal.undeclared-parts-requires
undeclared-parts-requires t c =
    let e = weight-seq _ _ (ap tree c.in-Seq.is ∙ tree-Seq c.in-Seq.parts ∙ ap (λ ps. seq (trees ps)) (sym c.items.ensures)) in
    (omega (arith, e, c.decreases), tt)

pub undeclared-parallel-requires : goal.undeclared-parallel-requires
undeclared-parallel-requires t c =
    let e = weight-par _ _ (ap tree c.in-Par.is ∙ tree-Par c.in-Par.parts ∙ ap (λ ps. par (trees ps)) (sym c.items-in-Par.ensures)) in
    (omega (arith, e, c.decreases), tt)

pub undeclared-choices-requires : goal.undeclared-choices-requires
undeclared-choices-requires t c =
    let e = weight-select _ _ (ap tree c.in-If.is ∙ tree-If c.in-If.choices ∙ ap (λ cs. select (cases cs)) (sym c.items-in-If.ensures)) in
    (omega (arith, e, c.decreases), tt)

pub undeclared-alternatives-requires : goal.undeclared-alternatives-requires
undeclared-alternatives-requires t c =
    let e = weight-alt _ _ (ap tree c.in-Alt.is ∙ tree-Alt c.in-Alt.alternatives ∙ ap (λ bs. alt (branches bs)) (sym c.items-in-Alt.ensures)) in
    (omega (arith, e, c.decreases), tt)

pub parts-part-requires : goal.parts-part-requires
parts-part-requires t c = (omega (arith, weight_in_all _ _ _ c.loop-part-test.true c.part-item.is, c.decreases), tt)

pub choices-part-requires : goal.choices-part-requires
choices-part-requires t c = (omega (arith, weight_in_cases _ _ _ c.loop-part-test.true c.loop-part-item.is, c.decreases), tt)

pub alternatives-part-requires : goal.alternatives-part-requires
alternatives-part-requires t c = (omega (arith, weight_in_branches _ _ _ c.loop-part-test.true c.loop-part-item.is, c.decreases), tt)

pub parallel-returns-in-Some-clause-found : goal.parallel-returns-in-Some-clause-found
parallel-returns-in-Some-clause-found t c =
    let all = trees c.args.parts.now in
    let here = λ (ks : List Name). variable_faults (shared_variable all) c.args.node (numbers ks) ++ end_faults (shared_end all) c.args.node (numbers ks) in
    sym (some_then (here c.args.self.now.names.items) (faults_of_all all c.args.self.now.next (numbers c.args.self.now.names.items)) c.in-Some.fault
    (sym (ap (λ ks. first (here ks)) c.as_slice.ensures.value) ∙ sym (c.in-Some.ensures all c.in_ok-sharing.ensures)))

pub parallel-returns-clause-found : goal.parallel-returns-clause-found
parallel-returns-clause-found t c =
    let all = trees c.args.parts.now in
    let here = λ (ks : List Name). variable_faults (shared_variable all) c.args.node (numbers ks) ++ end_faults (shared_end all) c.args.node (numbers ks) in
    let none = none_then (here c.args.self.now.names.items) (faults_of_all all c.args.self.now.next (numbers c.args.self.now.names.items))
    (sym (ap (λ ks. first (here ks)) c.as_slice.ensures.value) ∙ sym (c.in_default.ensures all c.in_ok-sharing.ensures)) in
    subst (λ o. IfOk c.parts.result (λ found. found ≡ o)) (sym none) c.parts.ensures.found

pub undeclared-returns-in-Seq-clause-found : goal.undeclared-returns-in-Seq-clause-found
undeclared-returns-in-Seq-clause-found t c =
    let e = ap tree c.in-Seq.is ∙ tree-Seq c.in-Seq.parts ∙ ap (λ ps. seq (trees ps)) (sym c.items.ensures) in
    let xs = numbers c.args.self.now.names.items in
    let f = ap (λ n. first (faults_of_all (trees c.items.result.now) n xs)) c.saturating_add-self.ensures ∙ sym (ap (λ p. first (faults p c.args.self.now.next xs)) e) in
    subst (λ o. IfOk c.parts.result (λ found. found ≡ o)) f c.parts.ensures.found

pub undeclared-returns-in-Seq-clause-next : goal.undeclared-returns-in-Seq-clause-next
undeclared-returns-in-Seq-clause-next t c =
    let e = ap tree c.in-Seq.is ∙ tree-Seq c.in-Seq.parts ∙ ap (λ ps. seq (trees ps)) (sym c.items.ensures) in
    let f = ap (λ n. after_all (trees c.items.result.now) n) c.saturating_add-self.ensures ∙ sym (ap (λ p. after p c.args.self.now.next) e) in
    subst (λ o. IfOk c.parts.result (λ found. IfNone found (c.parts.new.self.next ≡ o))) f c.parts.ensures.next

pub undeclared-returns-in-If-clause-found : goal.undeclared-returns-in-If-clause-found
undeclared-returns-in-If-clause-found t c =
    let e = ap tree c.in-If.is ∙ tree-If c.in-If.choices ∙ ap (λ ps. select (cases ps)) (sym c.items-in-If.ensures) in
    let xs = numbers c.args.self.now.names.items in
    let f = ap (λ n. first (faults_of_cases (cases c.items-in-If.result.now) n xs)) c.saturating_add-self.ensures ∙ sym (ap (λ p. first (faults p c.args.self.now.next xs)) e) in
    subst (λ o. IfOk c.choices.result (λ found. found ≡ o)) f c.choices.ensures.found

pub undeclared-returns-in-If-clause-next : goal.undeclared-returns-in-If-clause-next
undeclared-returns-in-If-clause-next t c =
    let e = ap tree c.in-If.is ∙ tree-If c.in-If.choices ∙ ap (λ ps. select (cases ps)) (sym c.items-in-If.ensures) in
    let f = ap (λ n. after_cases (cases c.items-in-If.result.now) n) c.saturating_add-self.ensures ∙ sym (ap (λ p. after p c.args.self.now.next) e) in
    subst (λ o. IfOk c.choices.result (λ found. IfNone found (c.choices.new.self.next ≡ o))) f c.choices.ensures.next

pub undeclared-returns-in-Alt-clause-found : goal.undeclared-returns-in-Alt-clause-found
undeclared-returns-in-Alt-clause-found t c =
    let e = ap tree c.in-Alt.is ∙ tree-Alt c.in-Alt.alternatives ∙ ap (λ ps. alt (branches ps)) (sym c.items-in-Alt.ensures) in
    let xs = numbers c.args.self.now.names.items in
    let f = ap (λ n. first (faults_of_branches (branches c.items-in-Alt.result.now) n xs)) c.saturating_add-self.ensures ∙ sym (ap (λ p. first (faults p c.args.self.now.next xs)) e) in
    subst (λ o. IfOk c.alternatives.result (λ found. found ≡ o)) f c.alternatives.ensures.found

pub undeclared-returns-in-Alt-clause-next : goal.undeclared-returns-in-Alt-clause-next
undeclared-returns-in-Alt-clause-next t c =
    let e = ap tree c.in-Alt.is ∙ tree-Alt c.in-Alt.alternatives ∙ ap (λ ps. alt (branches ps)) (sym c.items-in-Alt.ensures) in
    let f = ap (λ n. after_branches (branches c.items-in-Alt.result.now) n) c.saturating_add-self.ensures ∙ sym (ap (λ p. after p c.args.self.now.next) e) in
    subst (λ o. IfOk c.alternatives.result (λ found. IfNone found (c.alternatives.new.self.next ≡ o))) f c.alternatives.ensures.next

pub undeclared-returns-in-Par-clause-found : goal.undeclared-returns-in-Par-clause-found
undeclared-returns-in-Par-clause-found t c =
    let e = ap tree c.in-Par.is ∙ tree-Par c.in-Par.parts ∙ ap (λ ps. par (trees ps)) (sym c.items-in-Par.ensures) in
    let xs = numbers c.args.self.now.names.items in
    let all = trees c.items-in-Par.result.now in
    let m = c.args.self.now.next in
    let f = ap (λ n. first ((variable_faults (shared_variable all) m xs ++ end_faults (shared_end all) m xs) ++ faults_of_all all n xs)) c.saturating_add-self.ensures ∙ sym (ap (λ p. first (faults p m xs)) e) in
    subst (λ o. IfOk c.parallel.result (λ found. found ≡ o)) f c.parallel.ensures.found

pub undeclared-returns-in-Par-clause-next : goal.undeclared-returns-in-Par-clause-next
undeclared-returns-in-Par-clause-next t c =
    let e = ap tree c.in-Par.is ∙ tree-Par c.in-Par.parts ∙ ap (λ ps. par (trees ps)) (sym c.items-in-Par.ensures) in
    let f = ap (λ n. after_all (trees c.items-in-Par.result.now) n) c.saturating_add-self.ensures ∙ sym (ap (λ p. after p c.args.self.now.next) e) in
    subst (λ o. IfOk c.parallel.result (λ found. IfNone found (c.parallel.new.self.next ≡ o))) f c.parallel.ensures.next
