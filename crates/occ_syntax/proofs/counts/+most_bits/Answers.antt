use Rattle.std.proofs.Common.{arith, sym, ap, ◌∙◌}
use Rattle.occ_syntax.specs.Tree.{seq, par, select, alt}
use Rattle.occ_syntax.specs.View.{tree, trees, cases, branches}
use Rattle.occ_syntax.specs.Counts.{capped, most_bits}
use Rattle.occ_syntax.proofs.Views.{tree-Seq, tree-Par, tree-If, tree-Alt}
use Rattle.occ_syntax.proofs.Weights.{weight, weight-seq, weight-par, weight-select, weight-alt, weight_in_all, weight_in_cases, weight_in_branches}
use Rattle.occ_syntax.proofs.Counting.{weight-declaring}
use Rattle.occ_syntax.proofs.Widest.{one_further, further_in_all, further_in_cases, further_in_branches, all_seen, cases_seen, branches_seen, none_seen, no_case_seen, no_branch_seen}
use Rattle.occ_syntax.proofs.counts.+most_bits.Goals as goal

pub most_bits-loop-kind-preserved : goal.most_bits-loop-kind-preserved
most_bits-loop-kind-preserved t c =
    let e = c.in-Some.ensures in
    let g = ap weight e ∙ weight-declaring _ _ _ in
    record { whole = one_further _ _ _ _ _ _ _ _ e c.bits.ensures c.from.ensures c.saturating_add-bits.ensures ∙ c.loop-kind.invariant.whole; left = omega (arith, g, c.loop-kind.invariant.left) }

pub most_bits-loop-kind-smaller : goal.most_bits-loop-kind-smaller
most_bits-loop-kind-smaller t c =
    let e = c.in-Some.ensures in
    let g = ap weight e ∙ weight-declaring _ _ _ in
    omega (arith, g)

pub most_bits-most_bits_of_one-requires : goal.most_bits-most_bits_of_one-requires
most_bits-most_bits_of_one-requires t c = (omega (arith, c.loop-kind.invariant.left, c.decreases), c.in_default.ensures)

pub most_bits-returns : goal.most_bits-returns
most_bits-returns t c = c.most_bits_of_one.ensures ∙ c.loop-kind.invariant.whole

pub most_bits_of_one-most_bits_of_all-requires : goal.most_bits_of_one-most_bits_of_all-requires
most_bits_of_one-most_bits_of_all-requires t c =
    let e = weight-seq _ _ (ap tree c.in-Seq.is ∙ tree-Seq c.in-Seq.parts ∙ ap (λ ps. seq (trees ps)) (sym c.items.ensures)) in
    (omega (arith, e, c.decreases), tt)

pub most_bits_of_one-most_bits_of_all-requires-in-Par : goal.most_bits_of_one-most_bits_of_all-requires-in-Par
most_bits_of_one-most_bits_of_all-requires-in-Par t c =
    let e = weight-par _ _ (ap tree c.in-Par.is ∙ tree-Par c.in-Par.parts ∙ ap (λ ps. par (trees ps)) (sym c.items-in-Par.ensures)) in
    (omega (arith, e, c.decreases), tt)

pub most_bits_of_one-most_bits_of_choices-requires : goal.most_bits_of_one-most_bits_of_choices-requires
most_bits_of_one-most_bits_of_choices-requires t c =
    let e = weight-select _ _ (ap tree c.in-If.is ∙ tree-If c.in-If.choices ∙ ap (λ cs. select (cases cs)) (sym c.items-in-If.ensures)) in
    (omega (arith, e, c.decreases), tt)

pub most_bits_of_one-most_bits_of_alternatives-requires : goal.most_bits_of_one-most_bits_of_alternatives-requires
most_bits_of_one-most_bits_of_alternatives-requires t c =
    let e = weight-alt _ _ (ap tree c.in-Alt.is ∙ tree-Alt c.in-Alt.alternatives ∙ ap (λ bs. alt (branches bs)) (sym c.items-in-Alt.ensures)) in
    (omega (arith, e, c.decreases), tt)

pub most_bits_of_one-returns-in-Seq : goal.most_bits_of_one-returns-in-Seq
most_bits_of_one-returns-in-Seq t c =
    let e = ap tree c.in-Seq.is ∙ tree-Seq c.in-Seq.parts ∙ ap (λ ps. seq (trees ps)) (sym c.items.ensures) in
    c.most_bits_of_all.ensures ∙ sym (ap (λ p. capped (most_bits p c.args.outer)) e)

pub most_bits_of_one-returns-in-Par : goal.most_bits_of_one-returns-in-Par
most_bits_of_one-returns-in-Par t c =
    let e = ap tree c.in-Par.is ∙ tree-Par c.in-Par.parts ∙ ap (λ ps. par (trees ps)) (sym c.items-in-Par.ensures) in
    c.most_bits_of_all-in-Par.ensures ∙ sym (ap (λ p. capped (most_bits p c.args.outer)) e)

pub most_bits_of_one-returns-in-If : goal.most_bits_of_one-returns-in-If
most_bits_of_one-returns-in-If t c =
    let e = ap tree c.in-If.is ∙ tree-If c.in-If.choices ∙ ap (λ cs. select (cases cs)) (sym c.items-in-If.ensures) in
    c.most_bits_of_choices.ensures ∙ sym (ap (λ p. capped (most_bits p c.args.outer)) e)

pub most_bits_of_one-returns-in-Alt : goal.most_bits_of_one-returns-in-Alt
most_bits_of_one-returns-in-Alt t c =
    let e = ap tree c.in-Alt.is ∙ tree-Alt c.in-Alt.alternatives ∙ ap (λ bs. alt (branches bs)) (sym c.items-in-Alt.ensures) in
    c.most_bits_of_alternatives.ensures ∙ sym (ap (λ p. capped (most_bits p c.args.outer)) e)

pub most_bits_of_all-loop-part-init : goal.most_bits_of_all-loop-part-init
most_bits_of_all-loop-part-init t c = record { whole = none_seen _ _; at_least = omega arith; fits = omega arith }

pub most_bits_of_all-most_bits-bits-requires : goal.most_bits_of_all-most_bits-bits-requires
most_bits_of_all-most_bits-bits-requires t c = (omega (arith, weight_in_all _ _ _ c.loop-part-test.true c.part-item.is, c.decreases), tt)

pub most_bits_of_all-loop-part-preserved : goal.most_bits_of_all-loop-part-preserved
most_bits_of_all-loop-part-preserved t c = record {
  whole = further_in_all _ _ _ _ _ _ _ c.loop-part-test.true c.part-item.is c.most_bits-bits.ensures c.max-most.ensures ∙ c.loop-part.invariant.whole;
  at_least = omega arith;
  fits = c.max-most.type_inv;
}

pub most_bits_of_all-returns : goal.most_bits_of_all-returns
most_bits_of_all-returns t c =
    sym (all_seen _ _ _ _ c.loop-part-test.false c.loop-part.invariant.at_least c.loop-part.invariant.fits) ∙ c.loop-part.invariant.whole

pub most_bits_of_choices-loop-part-init : goal.most_bits_of_choices-loop-part-init
most_bits_of_choices-loop-part-init t c = record { whole = no_case_seen _ _; at_least = omega arith; fits = omega arith }

pub most_bits_of_choices-most_bits-requires : goal.most_bits_of_choices-most_bits-requires
most_bits_of_choices-most_bits-requires t c = (omega (arith, weight_in_cases _ _ _ c.loop-part-test.true c.loop-part-item.is, c.decreases), tt)

pub most_bits_of_choices-loop-part-preserved : goal.most_bits_of_choices-loop-part-preserved
most_bits_of_choices-loop-part-preserved t c = record {
  whole = further_in_cases _ _ _ _ _ _ _ c.loop-part-test.true c.loop-part-item.is c.most_bits.ensures c.max-most.ensures ∙ c.loop-part.invariant.whole;
  at_least = omega arith;
  fits = c.max-most.type_inv;
}

pub most_bits_of_choices-returns : goal.most_bits_of_choices-returns
most_bits_of_choices-returns t c =
    sym (cases_seen _ _ _ _ c.loop-part-test.false c.loop-part.invariant.at_least c.loop-part.invariant.fits) ∙ c.loop-part.invariant.whole

pub most_bits_of_alternatives-loop-part-init : goal.most_bits_of_alternatives-loop-part-init
most_bits_of_alternatives-loop-part-init t c = record { whole = no_branch_seen _ _; at_least = omega arith; fits = omega arith }

pub most_bits_of_alternatives-most_bits-requires : goal.most_bits_of_alternatives-most_bits-requires
most_bits_of_alternatives-most_bits-requires t c = (omega (arith, weight_in_branches _ _ _ c.loop-part-test.true c.loop-part-item.is, c.decreases), tt)

pub most_bits_of_alternatives-loop-part-preserved : goal.most_bits_of_alternatives-loop-part-preserved
most_bits_of_alternatives-loop-part-preserved t c = record {
  whole = further_in_branches _ _ _ _ _ _ _ c.loop-part-test.true c.loop-part-item.is c.most_bits.ensures c.max-most.ensures ∙ c.loop-part.invariant.whole;
  at_least = omega arith;
  fits = c.max-most.type_inv;
}

pub most_bits_of_alternatives-returns : goal.most_bits_of_alternatives-returns
most_bits_of_alternatives-returns t c =
    sym (branches_seen _ _ _ _ c.loop-part-test.false c.loop-part.invariant.at_least c.loop-part.invariant.fits) ∙ c.loop-part.invariant.whole
