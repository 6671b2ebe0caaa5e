use Rattle.std.proofs.Common.{arith, ap, sym, ◌∙◌}
use Rattle.occ_syntax.specs.Tree.{seq, par, select, alt, assign}
use Rattle.occ_syntax.specs.View.{tree, trees, cases, branches, numbers, exps}
use Rattle.occ_syntax.proofs.Views.{tree-Seq, tree-Par, tree-If, tree-Alt}
use Rattle.occ_syntax.proofs.Weights.{weight, weight-seq, weight-par, weight-select, weight-alt, weight_in_all, weight_in_cases, weight_in_branches}
use Rattle.occ_syntax.proofs.Counting.{weight-declaring}
use Rattle.occ_names.specs.Mentions.{mentions}
use Rattle.occ_names.proofs.Collected.{ok_as, ok_more, found_more, further, all_found, next_part, no_part, next_case, no_case_left, next_branch, no_branch_left, one_further_in, take_with, longer}
use Rattle.occ_names.proofs.collect.Collector.+collect.Goals as goal

pub part-loop-name-smaller : goal.part-loop-name-smaller
part-loop-name-smaller t c =
    let g = ap weight c.in-Some.ensures ∙ weight-declaring _ _ _ in
    omega (arith, g)

pub part-loop-name-preserved : goal.part-loop-name-preserved
part-loop-name-preserved t c =
    let g = ap weight c.in-Some.ensures ∙ weight-declaring _ _ _ in
    let inv = c.loop-name.invariant in
    record {
      found = one_further_in _ _ _ _ _ _ _ _ _ c.in-Some.ensures c.in_ok-push.ensures.ok c.in_ok-insert.ensures.ok inv.found;
      bound = take_with _ _ _ _ inv.longer c.in_ok-insert.ensures.ok ∙ inv.bound;
      longer = longer _ _ _ _ inv.longer c.in_ok-insert.ensures.ok;
      left = omega (arith, g, inv.left);
    }

pub undeclared-parts-requires : goal.undeclared-parts-requires
undeclared-parts-requires t c =
    let e = weight-seq _ _ (ap tree c.in-Seq.is ∙ tree-Seq c.in-Seq.parts ∙ ap (λ ps. seq (trees ps)) (sym c.items-in-Seq.ensures)) in
    (omega (arith, e, c.decreases), tt)

pub undeclared-parts-requires-in-Par : goal.undeclared-parts-requires-in-Par
undeclared-parts-requires-in-Par t c =
    let e = weight-par _ _ (ap tree c.in-Par.is ∙ tree-Par c.in-Par.parts ∙ ap (λ ps. par (trees ps)) (sym c.items-in-Par.ensures)) in
    (omega (arith, e, c.decreases), tt)

pub undeclared-choices-requires : goal.undeclared-choices-requires
undeclared-choices-requires t c =
    let e = weight-select _ _ (ap tree c.in-If.is ∙ tree-If c.in-If.choices ∙ ap (λ cs. select (cases cs)) (sym c.items-in-If.ensures)) in
    (omega (arith, e, c.decreases), tt)

pub undeclared-alternatives-requires : goal.undeclared-alternatives-requires
undeclared-alternatives-requires t c =
    let e = weight-alt _ _ (ap tree c.in-Alt.is ∙ tree-Alt c.in-Alt.alternatives ∙ ap (λ bs. alt (branches bs)) (sym c.items-in-Alt.ensures)) in
    (omega (arith, e, c.decreases), tt)

pub undeclared-returns-in_ok-write_all-in-Assign-clause-found : goal.undeclared-returns-in_ok-write_all-in-Assign-clause-found
unfolding tree
undeclared-returns-in_ok-write_all-in-Assign-clause-found t c =
    let e = ap tree c.in-Assign.is ∙ ap (λ xs. assign (numbers xs) (exps c.in-Assign.values)) (sym c.items.ensures) ∙ ap (λ es. assign (numbers c.items.result.now) (exps es)) (sym c.items-in-Assign.ensures) in
    ok_more c.read_all.result _ _ _ _ c.read_all.new.self.found _ _ _ (ap mentions e) c.in_ok-write_all-in-Assign.ensures.bound c.in_ok-write_all-in-Assign.ensures.found c.read_all.ensures.found

pub undeclared-returns-in-Seq-clause-found : goal.undeclared-returns-in-Seq-clause-found
undeclared-returns-in-Seq-clause-found t c =
    let e = ap tree c.in-Seq.is ∙ tree-Seq c.in-Seq.parts ∙ ap (λ ps. seq (trees ps)) (sym c.items-in-Seq.ensures) in
    ok_as c.parts.result _ _ c.parts.new.self.found _ _ (ap mentions e) c.parts.ensures.found

pub undeclared-returns-in-Par-clause-found : goal.undeclared-returns-in-Par-clause-found
undeclared-returns-in-Par-clause-found t c =
    let e = ap tree c.in-Par.is ∙ tree-Par c.in-Par.parts ∙ ap (λ ps. par (trees ps)) (sym c.items-in-Par.ensures) in
    ok_as c.parts-in-Par.result _ _ c.parts-in-Par.new.self.found _ _ (ap mentions e) c.parts-in-Par.ensures.found

pub undeclared-returns-in-If-clause-found : goal.undeclared-returns-in-If-clause-found
undeclared-returns-in-If-clause-found t c =
    let e = ap tree c.in-If.is ∙ tree-If c.in-If.choices ∙ ap (λ cs. select (cases cs)) (sym c.items-in-If.ensures) in
    ok_as c.choices.result _ _ c.choices.new.self.found _ _ (ap mentions e) c.choices.ensures.found

pub undeclared-returns-in-Alt-clause-found : goal.undeclared-returns-in-Alt-clause-found
undeclared-returns-in-Alt-clause-found t c =
    let e = ap tree c.in-Alt.is ∙ tree-Alt c.in-Alt.alternatives ∙ ap (λ bs. alt (branches bs)) (sym c.items-in-Alt.ensures) in
    ok_as c.alternatives.result _ _ c.alternatives.new.self.found _ _ (ap mentions e) c.alternatives.ensures.found

pub parts-part-requires : goal.parts-part-requires
parts-part-requires t c = (omega (arith, weight_in_all _ _ _ c.loop-part-test.true c.part-item.is, c.decreases), tt)

pub parts-loop-part-preserved : goal.parts-loop-part-preserved
parts-loop-part-preserved t c = record {
  found = further _ _ _ _ _ _ _ _ c.loop-part.invariant.bound c.in_ok-part.ensures.found (next_part _ _ _ c.loop-part-test.true c.part-item.is) c.loop-part.invariant.found;
  bound = c.in_ok-part.ensures.bound ∙ c.loop-part.invariant.bound;
}

pub parts-returns : goal.parts-returns
parts-returns t c = record {
  found = all_found _ _ _ _ (no_part _ _ c.loop-part-test.false) c.loop-part.invariant.found;
  bound = c.loop-part.invariant.bound;
}

pub choices-part-requires : goal.choices-part-requires
choices-part-requires t c = (omega (arith, weight_in_cases _ _ _ c.loop-condition-test.true c.loop-condition-item.is, c.decreases), tt)

pub choices-loop-condition-preserved : goal.choices-loop-condition-preserved
choices-loop-condition-preserved t c =
    let two = found_more _ _ _ _ _ _ _ c.in_ok-read.ensures.bound c.in_ok-read.ensures.found c.in_ok-part.ensures.found in
    record {
      found = further _ _ _ _ _ _ _ _ c.loop-condition.invariant.bound two (next_case _ _ _ c.loop-condition-test.true c.loop-condition-item.is) c.loop-condition.invariant.found;
      bound = c.in_ok-part.ensures.bound ∙ c.in_ok-read.ensures.bound ∙ c.loop-condition.invariant.bound;
    }

pub choices-returns : goal.choices-returns
choices-returns t c = record {
  found = all_found _ _ _ _ (no_case_left _ _ c.loop-condition-test.false) c.loop-condition.invariant.found;
  bound = c.loop-condition.invariant.bound;
}

pub alternatives-part-requires : goal.alternatives-part-requires
alternatives-part-requires t c = (omega (arith, weight_in_branches _ _ _ c.loop-guard-test.true c.loop-guard-item.is, c.decreases), tt)

pub alternatives-loop-guard-preserved : goal.alternatives-loop-guard-preserved
alternatives-loop-guard-preserved t c =
    let two = found_more _ _ _ _ _ _ _ c.in_ok-read.ensures.bound c.in_ok-read.ensures.found c.in_ok-wait.ensures.found in
    let three = found_more _ _ _ _ _ _ _ (c.in_ok-wait.ensures.bound ∙ c.in_ok-read.ensures.bound) two c.in_ok-part.ensures.found in
    record {
      found = further _ _ _ _ _ _ _ _ c.loop-guard.invariant.bound three (next_branch _ _ _ c.loop-guard-test.true c.loop-guard-item.is) c.loop-guard.invariant.found;
      bound = c.in_ok-part.ensures.bound ∙ c.in_ok-wait.ensures.bound ∙ c.in_ok-read.ensures.bound ∙ c.loop-guard.invariant.bound;
    }

pub alternatives-returns : goal.alternatives-returns
alternatives-returns t c = record {
  found = all_found _ _ _ _ (no_branch_left _ _ c.loop-guard-test.false) c.loop-guard.invariant.found;
  bound = c.loop-guard.invariant.bound;
}
