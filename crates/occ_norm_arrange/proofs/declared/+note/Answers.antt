use Rattle.std.proofs.Common.{ap, arith, sym, ◌∙◌}
use Rattle.std.proofs.lemmas.Result.{on_ok_weaker}
use Rattle.occ_syntax.proofs.Counting.{weight-declaring}
use Rattle.occ_syntax.proofs.Views.{tree-Alt, tree-If, tree-Par, tree-Seq}
use Rattle.occ_syntax.proofs.Weights.{weight, weight-alt, weight-par, weight-select, weight-seq, weight_in_all, weight_in_branches, weight_in_cases}
use Rattle.occ_syntax.specs.Tree.{alt, par, select, seq}
use Rattle.occ_syntax.specs.View.{branches, cases, tree, trees}
use Rattle.occ_norm_arrange.specs.Declares.{declares}
use Rattle.occ_norm_arrange.proofs.Noting.{notes_one, opened_done, opened_first, opened_last, opened_next}
use Rattle.occ_norm_arrange.proofs.FlatNoting.{declares_declaring, next_branch, next_choice, next_part, no_branch, no_choice, no_part, notes_as}
use Rattle.occ_norm_arrange.proofs.declared.+note.Goals as goal

pub note_declared-loop-name-init : goal.note_declared-loop-name-init
note_declared-loop-name-init t c = record { opened = opened_first _ _; left = omega arith }

pub note_declared-loop-name-smaller : goal.note_declared-loop-name-smaller
note_declared-loop-name-smaller t c = let g = ap weight c.in-Some.ensures ∙ weight-declaring _ _ _ in omega (arith, g)

pub note_declared-loop-name-preserved : goal.note_declared-loop-name-preserved
note_declared-loop-name-preserved t c =
    let g = ap weight c.in-Some.ensures ∙ weight-declaring _ _ _ in
    record {
      opened = opened_next _ _ _ _ _ _ _ c.loop-name.invariant.opened (notes_one _ _ _ c.in_ok-insert.ensures.ok) (λ x. ap (λ p. declares p x) c.in-Some.ensures ∙ declares_declaring _ _ _ x);
      left = omega (arith, g, c.loop-name.invariant.left);
    }

pub note_declared-returns : goal.note_declared-returns
note_declared-returns t c = on_ok_weaker c.note_undeclared.result (λ a. opened_last _ _ _ _ _ c.loop-name.invariant.opened a) c.note_undeclared.ensures

pub note_undeclared-note_parts-requires : goal.note_undeclared-note_parts-requires
note_undeclared-note_parts-requires t c =
    let e = weight-seq _ _ (ap tree c.in-Seq.is ∙ tree-Seq c.in-Seq.parts ∙ ap (λ xs. seq (trees xs)) (sym c.items.ensures)) in (omega (arith, e, c.decreases), tt)

pub note_undeclared-returns-in-Seq : goal.note_undeclared-returns-in-Seq
note_undeclared-returns-in-Seq t c =
    let e = ap tree c.in-Seq.is ∙ tree-Seq c.in-Seq.parts ∙ ap (λ xs. seq (trees xs)) (sym c.items.ensures) in
    on_ok_weaker c.note_parts.result (λ a. notes_as _ _ _ _ e a) c.note_parts.ensures

pub note_undeclared-note_parts-requires-in-Par : goal.note_undeclared-note_parts-requires-in-Par
note_undeclared-note_parts-requires-in-Par t c =
    let e = weight-par _ _ (ap tree c.in-Par.is ∙ tree-Par c.in-Par.parts ∙ ap (λ xs. par (trees xs)) (sym c.items-in-Par.ensures)) in (omega (arith, e, c.decreases), tt)

pub note_undeclared-returns-in-Par : goal.note_undeclared-returns-in-Par
note_undeclared-returns-in-Par t c =
    let e = ap tree c.in-Par.is ∙ tree-Par c.in-Par.parts ∙ ap (λ xs. par (trees xs)) (sym c.items-in-Par.ensures) in
    on_ok_weaker c.note_parts-in-Par.result (λ a. notes_as _ _ _ _ e a) c.note_parts-in-Par.ensures

pub note_undeclared-note_choices-requires : goal.note_undeclared-note_choices-requires
note_undeclared-note_choices-requires t c =
    let e = weight-select _ _ (ap tree c.in-If.is ∙ tree-If c.in-If.choices ∙ ap (λ xs. select (cases xs)) (sym c.items-in-If.ensures)) in (omega (arith, e, c.decreases), tt)

pub note_undeclared-returns-in-If : goal.note_undeclared-returns-in-If
note_undeclared-returns-in-If t c =
    let e = ap tree c.in-If.is ∙ tree-If c.in-If.choices ∙ ap (λ xs. select (cases xs)) (sym c.items-in-If.ensures) in
    on_ok_weaker c.note_choices.result (λ a. notes_as _ _ _ _ e a) c.note_choices.ensures

pub note_undeclared-note_branches-requires : goal.note_undeclared-note_branches-requires
note_undeclared-note_branches-requires t c =
    let e = weight-alt _ _ (ap tree c.in-Alt.is ∙ tree-Alt c.in-Alt.alternatives ∙ ap (λ xs. alt (branches xs)) (sym c.items-in-Alt.ensures)) in (omega (arith, e, c.decreases), tt)

pub note_undeclared-returns-in-Alt : goal.note_undeclared-returns-in-Alt
note_undeclared-returns-in-Alt t c =
    let e = ap tree c.in-Alt.is ∙ tree-Alt c.in-Alt.alternatives ∙ ap (λ xs. alt (branches xs)) (sym c.items-in-Alt.ensures) in
    on_ok_weaker c.note_branches.result (λ a. notes_as _ _ _ _ e a) c.note_branches.ensures

pub note_parts-loop-part-init : goal.note_parts-loop-part-init
note_parts-loop-part-init t c = opened_first _ _

pub note_parts-note_declared-requires : goal.note_parts-note_declared-requires
note_parts-note_declared-requires t c = (omega (arith, weight_in_all _ _ _ c.loop-part-test.true c.part-item.is, c.decreases), tt)

pub note_parts-loop-part-preserved : goal.note_parts-loop-part-preserved
note_parts-loop-part-preserved t c = opened_next _ _ _ _ _ _ _ c.loop-part.invariant c.in_ok-note_declared.ensures (next_part _ _ _ c.loop-part-test.true c.part-item.is)

pub note_parts-returns : goal.note_parts-returns
note_parts-returns t c = opened_done _ _ _ _ c.loop-part.invariant (no_part _ _ c.loop-part-test.false)

pub note_choices-loop-part-init : goal.note_choices-loop-part-init
note_choices-loop-part-init t c = opened_first _ _

pub note_choices-note_declared-requires : goal.note_choices-note_declared-requires
note_choices-note_declared-requires t c = (omega (arith, weight_in_cases _ _ _ c.loop-part-test.true c.loop-part-item.is, c.decreases), tt)

pub note_choices-loop-part-preserved : goal.note_choices-loop-part-preserved
note_choices-loop-part-preserved t c = opened_next _ _ _ _ _ _ _ c.loop-part.invariant c.in_ok-note_declared.ensures (next_choice _ _ _ c.loop-part-test.true c.loop-part-item.is)

pub note_choices-returns : goal.note_choices-returns
note_choices-returns t c = opened_done _ _ _ _ c.loop-part.invariant (no_choice _ _ c.loop-part-test.false)

pub note_branches-loop-part-init : goal.note_branches-loop-part-init
note_branches-loop-part-init t c = opened_first _ _

pub note_branches-note_declared-requires : goal.note_branches-note_declared-requires
note_branches-note_declared-requires t c = (omega (arith, weight_in_branches _ _ _ c.loop-part-test.true c.loop-part-item.is, c.decreases), tt)

pub note_branches-loop-part-preserved : goal.note_branches-loop-part-preserved
note_branches-loop-part-preserved t c = opened_next _ _ _ _ _ _ _ c.loop-part.invariant c.in_ok-note_declared.ensures (next_branch _ _ _ c.loop-part-test.true c.loop-part-item.is)

pub note_branches-returns : goal.note_branches-returns
note_branches-returns t c = opened_done _ _ _ _ c.loop-part.invariant (no_branch _ _ c.loop-part-test.false)
