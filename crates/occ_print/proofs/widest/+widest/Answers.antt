use Rattle.std.proofs.Common.{arith, ap, sym, ◌∙◌}
use Rattle.occ_syntax.specs.Tree.{seq, par, select, alt}
use Rattle.occ_syntax.specs.View.{tree, trees, cases, branches}
use Rattle.occ_syntax.specs.Counts.{capped}
use Rattle.occ_syntax.proofs.Views.{tree-Seq, tree-Par, tree-If, tree-Alt}
use Rattle.occ_syntax.proofs.Weights.{weight, weight-seq, weight-par, weight-select, weight-alt, weight_in_all, weight_in_cases, weight_in_branches}
use Rattle.occ_syntax.proofs.Counting.{weight-declaring}
use Rattle.occ_print.proofs.Counting.{part_widest, all_widest, cases_widest, branches_widest, declaration_further, part_further, case_further, branch_further, parts_seen, cases_seen, branches_seen, seq_tokens, par_tokens, select_tokens, alt_tokens}
use Rattle.occ_print.proofs.widest.+widest.Goals as goal

pub line_tokens-loop-kind-smaller : goal.line_tokens-loop-kind-smaller
line_tokens-loop-kind-smaller t c =
    let g = ap weight c.in-Some.ensures ∙ weight-declaring _ _ _ in
    omega (arith, g)

pub line_tokens-loop-kind-preserved : goal.line_tokens-loop-kind-preserved
line_tokens-loop-kind-preserved t c =
    let g = ap weight c.in-Some.ensures ∙ weight-declaring _ _ _ in
    record {
      whole = declaration_further _ _ _ _ _ _ _ c.in-Some.ensures c.declaration_tokens.ensures c.max-most.ensures ∙ c.loop-kind.invariant.whole;
      fits = c.max-most.type_inv;
      left = omega (arith, g, c.loop-kind.invariant.left);
    }

pub line_tokens-returns : goal.line_tokens-returns
line_tokens-returns t c =
    omega (arith, c.max.ensures, c.undeclared_tokens.ensures, part_widest 0 (tree c.loop-kind.rest.now), part_widest 0 (tree c.args.part.now), c.loop-kind.invariant.whole, c.loop-kind.invariant.fits)

pub tokens_of_all-line_tokens-requires : goal.tokens_of_all-line_tokens-requires
tokens_of_all-line_tokens-requires t c = (omega (arith, weight_in_all _ _ _ c.loop-part-test.true c.part-item.is, c.decreases), tt)

pub tokens_of_all-loop-part-preserved : goal.tokens_of_all-loop-part-preserved
tokens_of_all-loop-part-preserved t c = record {
  whole = part_further _ _ _ _ _ _ c.loop-part-test.true c.part-item.is c.line_tokens.ensures c.max-most.ensures ∙ c.loop-part.invariant.whole;
  fits = c.max-most.type_inv;
}

pub tokens_of_all-returns : goal.tokens_of_all-returns
tokens_of_all-returns t c =
    sym (parts_seen _ _ _ c.loop-part-test.false c.loop-part.invariant.fits) ∙ c.loop-part.invariant.whole ∙ ap capped (sym (all_widest 0 _))

pub tokens_of_choices-line_tokens-requires : goal.tokens_of_choices-line_tokens-requires
tokens_of_choices-line_tokens-requires t c = (omega (arith, weight_in_cases _ _ _ c.loop-condition-test.true c.loop-condition-item.is, c.decreases), tt)

pub tokens_of_choices-loop-condition-preserved : goal.tokens_of_choices-loop-condition-preserved
tokens_of_choices-loop-condition-preserved t c = record {
  whole = case_further _ _ _ _ _ _ _ _ c.loop-condition-test.true c.loop-condition-item.is c.expression_tokens.ensures c.max.ensures c.line_tokens.ensures c.max-most.ensures
      ∙ c.loop-condition.invariant.whole;
  fits = c.max-most.type_inv;
}

pub tokens_of_choices-returns : goal.tokens_of_choices-returns
tokens_of_choices-returns t c =
    sym (cases_seen _ _ _ c.loop-condition-test.false c.loop-condition.invariant.fits) ∙ c.loop-condition.invariant.whole ∙ ap capped (sym (cases_widest 0 _))

pub tokens_of_alternatives-line_tokens-requires : goal.tokens_of_alternatives-line_tokens-requires
tokens_of_alternatives-line_tokens-requires t c = (omega (arith, weight_in_branches _ _ _ c.loop-guard-test.true c.loop-guard-item.is, c.decreases), tt)

pub tokens_of_alternatives-loop-guard-preserved : goal.tokens_of_alternatives-loop-guard-preserved
tokens_of_alternatives-loop-guard-preserved t c = record {
  whole = branch_further _ _ _ _ _ _ _ _ c.loop-guard-test.true c.loop-guard-item.is c.guard_tokens.ensures c.max.ensures c.line_tokens.ensures c.max-most.ensures
      ∙ c.loop-guard.invariant.whole;
  fits = c.max-most.type_inv;
}

pub tokens_of_alternatives-returns : goal.tokens_of_alternatives-returns
tokens_of_alternatives-returns t c =
    sym (branches_seen _ _ _ c.loop-guard-test.false c.loop-guard.invariant.fits) ∙ c.loop-guard.invariant.whole ∙ ap capped (sym (branches_widest 0 _))

pub undeclared_tokens-tokens_of_all-requires : goal.undeclared_tokens-tokens_of_all-requires
undeclared_tokens-tokens_of_all-requires t c =
    let e = weight-seq _ _ (ap tree c.in-Seq.is ∙ tree-Seq c.in-Seq.parts ∙ ap (λ ps. seq (trees ps)) (sym c.items-in-Seq.ensures)) in
    (omega (arith, e, c.decreases), tt)

pub undeclared_tokens-returns-in-Seq : goal.undeclared_tokens-returns-in-Seq
undeclared_tokens-returns-in-Seq t c = seq_tokens _ _ _ _ (ap tree c.in-Seq.is ∙ tree-Seq c.in-Seq.parts ∙ ap (λ ps. seq (trees ps)) (sym c.items-in-Seq.ensures)) c.tokens_of_all.ensures c.max.ensures

pub undeclared_tokens-tokens_of_all-requires-in-Par : goal.undeclared_tokens-tokens_of_all-requires-in-Par
undeclared_tokens-tokens_of_all-requires-in-Par t c =
    let e = weight-par _ _ (ap tree c.in-Par.is ∙ tree-Par c.in-Par.parts ∙ ap (λ ps. par (trees ps)) (sym c.items-in-Par.ensures)) in
    (omega (arith, e, c.decreases), tt)

pub undeclared_tokens-returns-in-Par : goal.undeclared_tokens-returns-in-Par
undeclared_tokens-returns-in-Par t c = par_tokens _ _ _ _ (ap tree c.in-Par.is ∙ tree-Par c.in-Par.parts ∙ ap (λ ps. par (trees ps)) (sym c.items-in-Par.ensures)) c.tokens_of_all-in-Par.ensures c.max-in-Par.ensures

pub undeclared_tokens-tokens_of_choices-requires : goal.undeclared_tokens-tokens_of_choices-requires
undeclared_tokens-tokens_of_choices-requires t c =
    let e = weight-select _ _ (ap tree c.in-If.is ∙ tree-If c.in-If.choices ∙ ap (λ ps. select (cases ps)) (sym c.items-in-If.ensures)) in
    (omega (arith, e, c.decreases), tt)

pub undeclared_tokens-returns-in-If : goal.undeclared_tokens-returns-in-If
undeclared_tokens-returns-in-If t c = select_tokens _ _ _ _ (ap tree c.in-If.is ∙ tree-If c.in-If.choices ∙ ap (λ ps. select (cases ps)) (sym c.items-in-If.ensures)) c.tokens_of_choices.ensures c.max-in-If.ensures

pub undeclared_tokens-tokens_of_alternatives-requires : goal.undeclared_tokens-tokens_of_alternatives-requires
undeclared_tokens-tokens_of_alternatives-requires t c =
    let e = weight-alt _ _ (ap tree c.in-Alt.is ∙ tree-Alt c.in-Alt.alternatives ∙ ap (λ ps. alt (branches ps)) (sym c.items-in-Alt.ensures)) in
    (omega (arith, e, c.decreases), tt)

pub undeclared_tokens-returns-in-Alt : goal.undeclared_tokens-returns-in-Alt
undeclared_tokens-returns-in-Alt t c = alt_tokens _ _ _ _ (ap tree c.in-Alt.is ∙ tree-Alt c.in-Alt.alternatives ∙ ap (λ ps. alt (branches ps)) (sym c.items-in-Alt.ensures)) c.tokens_of_alternatives.ensures c.max-in-Alt.ensures
