use Rattle.std.proofs.Common.{◌<◌, ap, arith, length, sym, ◌∙◌}
use Rattle.occ_syntax.proofs.Counting.{weight-declaring}
use Rattle.occ_syntax.proofs.Views.{tree-Alt, tree-If, tree-Par, tree-Seq}
use Rattle.occ_syntax.proofs.Weights.{weight, weight-alt, weight-par, weight-select, weight-seq, weight_in_all, weight_in_branches, weight_in_cases}
use Rattle.occ_syntax.proofs.Within.{one_off}
use Rattle.occ_syntax.specs.Declarations.{declaring_all}
use Rattle.occ_syntax.specs.Tree.{alt, par, select, seq}
use Rattle.occ_syntax.specs.View.{branches, cases, tree, trees}
use Rattle.occ_syntax.specs.declared.expr.Expr.{Expr}
use Rattle.occ_syntax.specs.declared.expr.Guard.{Guard}
use Rattle.occ_syntax.specs.declared.proc.Proc.{Proc}
use Rattle.occ_norm_arrange.proofs.Congruent.{arranged_alt, arranged_if, arranged_par, arranged_seq, arranged_within}
use Rattle.occ_norm_arrange.proofs.Itself.{arranged_as, found_is}
use Rattle.occ_norm_arrange.proofs.walk.+walk.Goals as goal

pub inside-loop-name-smaller : goal.inside-loop-name-smaller
inside-loop-name-smaller t c = let g = ap weight c.in-Some.ensures ∙ weight-declaring _ _ _ in omega (arith, g)

pub inside-loop-name-preserved : goal.inside-loop-name-preserved
inside-loop-name-preserved t c =
    let g = ap weight c.in-Some.ensures ∙ weight-declaring _ _ _ in
    record {
      whole = one_off _ _ _ _ _ _ c.in_ok-push.ensures.ok c.in-Some.ensures c.loop-name.invariant.whole;
      left = omega (arith, g, c.loop-name.invariant.left);
    }

pub inside-returns : goal.inside-returns
inside-returns t c =
    let other = tree c.in-Some-2.other in
    arranged_within c.loop-name.declarations (tree c.loop-name.body.now) other (tree c.args.part.now) (tree c.in_ok-whole.whole) (sym c.loop-name.invariant.whole)
    (c.in_ok-whole.ensures ∙ ap (λ ds. declaring_all ds other) c.items.ensures)
    (found_is c.in_ok-other.field-0 c.in-Some-2.other _ c.in-Some-2.is c.in_ok-other.ensures)

pub inside_body-parts_arranged-requires : goal.inside_body-parts_arranged-requires
inside_body-parts_arranged-requires t c =
    let e = weight-seq _ _ (ap tree c.in-Seq.is ∙ tree-Seq c.in-Seq.parts ∙ ap (λ xs. seq (trees xs)) (sym c.items.ensures)) in (omega (arith, e, c.decreases), tt)

pub inside_body-returns-in-Some : goal.inside_body-returns-in-Some
inside_body-returns-in-Some t c =
    arranged_as _ _ _ _ (ap tree c.in-Seq.is ∙ tree-Seq c.in-Seq.parts ∙ ap (λ xs. seq (trees xs)) (sym c.items.ensures)) (tree-Seq c.in-Some.list)
    (arranged_seq _ _ (found_is c.in_ok-list-in-Seq.field-0 c.in-Some.list _ c.in-Some.is c.in_ok-list-in-Seq.ensures))

pub inside_body-parts_arranged-requires-in-Par : goal.inside_body-parts_arranged-requires-in-Par
inside_body-parts_arranged-requires-in-Par t c =
    let e = weight-par _ _ (ap tree c.in-Par.is ∙ tree-Par c.in-Par.parts ∙ ap (λ xs. par (trees xs)) (sym c.items-in-Par.ensures)) in (omega (arith, e, c.decreases), tt)

pub inside_body-returns-in-Some-2 : goal.inside_body-returns-in-Some-2
inside_body-returns-in-Some-2 t c =
    arranged_as _ _ _ _ (ap tree c.in-Par.is ∙ tree-Par c.in-Par.parts ∙ ap (λ xs. par (trees xs)) (sym c.items-in-Par.ensures)) (tree-Par c.in-Some-2.list)
    (arranged_par _ _ (found_is c.in_ok-list-in-Par.field-0 c.in-Some-2.list _ c.in-Some-2.is c.in_ok-list-in-Par.ensures))

pub inside_body-choices_arranged-requires : goal.inside_body-choices_arranged-requires
inside_body-choices_arranged-requires t c =
    let e = weight-select _ _ (ap tree c.in-If.is ∙ tree-If c.in-If.choices ∙ ap (λ xs. select (cases xs)) (sym c.items-in-If.ensures)) in (omega (arith, e, c.decreases), tt)

pub inside_body-returns-in-Some-3 : goal.inside_body-returns-in-Some-3
inside_body-returns-in-Some-3 t c =
    arranged_as _ _ _ _ (ap tree c.in-If.is ∙ tree-If c.in-If.choices ∙ ap (λ xs. select (cases xs)) (sym c.items-in-If.ensures)) (tree-If c.in-Some-3.list)
    (arranged_if _ _ (found_is c.in_ok-list-in-If.field-0 c.in-Some-3.list _ c.in-Some-3.is c.in_ok-list-in-If.ensures))

pub inside_body-branches_arranged-requires : goal.inside_body-branches_arranged-requires
inside_body-branches_arranged-requires t c =
    let e = weight-alt _ _ (ap tree c.in-Alt.is ∙ tree-Alt c.in-Alt.alternatives ∙ ap (λ xs. alt (branches xs)) (sym c.items-in-Alt.ensures)) in (omega (arith, e, c.decreases), tt)

pub inside_body-returns-in-Some-4 : goal.inside_body-returns-in-Some-4
inside_body-returns-in-Some-4 t c =
    arranged_as _ _ _ _ (ap tree c.in-Alt.is ∙ tree-Alt c.in-Alt.alternatives ∙ ap (λ xs. alt (branches xs)) (sym c.items-in-Alt.ensures)) (tree-Alt c.in-Some-4.list)
    (arranged_alt _ _ (found_is c.in_ok-list-in-Alt.field-0 c.in-Some-4.list _ c.in-Some-4.is c.in_ok-list-in-Alt.ensures))

pub parts_arranged-everywhere-requires : goal.parts_arranged-everywhere-requires
parts_arranged-everywhere-requires t c =
    let low : c.loop-place.place < length c.args.parts.now = omega arith in
    (omega (arith, weight_in_all c.args.parts.now c.loop-place.place c.index-parts-place.result low c.index-parts-place.is, c.decreases), tt)

pub choices_arranged-everywhere-requires : goal.choices_arranged-everywhere-requires
choices_arranged-everywhere-requires t c =
    let low : c.loop-place.place < length c.args.choices.now = omega arith in
    let h = weight_in_cases c.args.choices.now c.loop-place.place c.index-choices-place.result low c.index-choices-place.is in
    let e = ap (λ (d : Expr × Proc). weight (tree d.1)) c.index-choices-place.is in (omega (arith, h, e, c.decreases), tt)

pub branches_arranged-everywhere-requires : goal.branches_arranged-everywhere-requires
branches_arranged-everywhere-requires t c =
    let low : c.loop-place.place < length c.args.alternatives.now = omega arith in
    let h = weight_in_branches c.args.alternatives.now c.loop-place.place c.index-alternatives-place.result low c.index-alternatives-place.is in
    let e = ap (λ (d : Guard × Proc). weight (tree d.1)) c.index-alternatives-place.is in (omega (arith, h, e, c.decreases), tt)
