use Rattle.std.proofs.Common.{◌≡◌, ◌<◌, IfOk, length, sym, ap, subst, ◌∙◌, arith}
use Rattle.occ_syntax.specs.declared.expr.Expr.{Expr}
use Rattle.occ_syntax.specs.declared.proc.Proc.{Proc}
use Rattle.occ_syntax.specs.Eval.{eval}
use Rattle.occ_syntax.specs.Tree.{Tree, seq, par, select, connect}
use Rattle.occ_syntax.specs.Types.{types_kept}
use Rattle.occ_syntax.specs.View.{cases, exp, tree, trees}
use Rattle.occ_syntax.proofs.Views.{tree-Seq, tree-Par, tree-If}
use Rattle.occ_syntax.proofs.Weights.{weight, weight-seq, weight-par, weight-select}
use Rattle.occ_run_steps.specs.Settled.{begun, begun_all, side_by_side}
use Rattle.occ_syntax.specs.Scopes.{values}
use Rattle.occ_run.specs.Places.{names_at, values_at}
use Rattle.occ_run.specs.View.{control}
use Rattle.occ_run.proofs.Fronts.{front_is, none_is, not_one}
use Rattle.occ_run.proofs.Rows.{all_made, one_made}
use Rattle.occ_run.proofs.Beginning.{all_front, begun_row, case_front, choice_over, lighter_case, lighter_choices, lighter_later, lighter_part, row_kept, row_weight, turn_over}
use Rattle.occ_run.proofs.settle.+begun.Goals as goal

pub begun-begun_turn-requires : goal.begun-begun_turn-requires
begun-begun_turn-requires t c =
    let e = ap tree c.in-Seq.is ∙ tree-Seq c.in-Seq.parts ∙ ap (λ ps. seq (trees ps)) (sym c.items.ensures) in
    let w = weight-seq _ _ e in
    (omega (arith, w, c.decreases), sym (ap (λ p. types_kept p (names_at c.args.place.now)) e) ∙ c.requires)

pub begun-begun_all-requires : goal.begun-begun_all-requires
begun-begun_all-requires t c =
    let e = ap tree c.in-Par.is ∙ tree-Par c.in-Par.parts ∙ ap (λ ps. par (trees ps)) (sym c.items-in-Par.ensures) in
    let w = weight-par _ _ e in
    (omega (arith, w, c.decreases), sym (ap (λ p. types_kept p (names_at c.args.place.now)) e) ∙ c.requires)

pub begun-begun_choice-requires : goal.begun-begun_choice-requires
begun-begun_choice-requires t c =
    let e = ap tree c.in-If.is ∙ tree-If c.in-If.choices ∙ ap (λ cs. select (cases cs)) (sym c.items-in-If.ensures) in
    let w = weight-select _ _ e in
    (omega (arith, w, c.decreases), sym (ap (λ p. types_kept p (names_at c.args.place.now)) e) ∙ c.requires)

pub begun-within-requires : goal.begun-within-requires
unfolding tree
begun-within-requires t c =
    let whole = ap tree c.in-Chan.is ∙ ap (connect c.in-Chan.name.0 c.in-Chan.width) (sym (ap tree c.deref.ensures) ∙ c.in_ok-more-in-Chan.ensures) in
    (row_kept (c.in-Chan.name, c.in-Chan.width) c.in_ok-more-in-Chan.more.items c.deref-in-Chan.result.now (tree c.args.part.now) (tree c.in_ok-more-in-Chan.rest.now) whole
    (names_at c.args.place.now) c.deref-in-Chan.ensures.value c.requires).0

pub begun-begun-requires : goal.begun-begun-requires
unfolding tree
begun-begun-requires t c =
    let whole = ap tree c.in-Chan.is ∙ ap (connect c.in-Chan.name.0 c.in-Chan.width) (sym (ap tree c.deref.ensures) ∙ c.in_ok-more-in-Chan.ensures) in
    let kept = row_kept (c.in-Chan.name, c.in-Chan.width) c.in_ok-more-in-Chan.more.items c.deref-in-Chan.result.now (tree c.args.part.now) (tree c.in_ok-more-in-Chan.rest.now) whole
    (names_at c.args.place.now) c.deref-in-Chan.ensures.value c.requires in
    let light = row_weight (c.in-Chan.name, c.in-Chan.width) c.in_ok-more-in-Chan.more.items c.deref-in-Chan.result.now (tree c.args.part.now) (tree c.in_ok-more-in-Chan.rest.now) whole in
    (omega (arith, light, c.decreases), ap (types_kept (tree c.in_ok-more-in-Chan.rest.now)) c.in_ok-inner-in-Chan.ensures.scope ∙ kept.1)

pub begun-returns-in-Seq : goal.begun-returns-in-Seq
begun-returns-in-Seq t c =
    let e = ap tree c.in-Seq.is ∙ tree-Seq c.in-Seq.parts ∙ ap (λ ps. seq (trees ps)) (sym c.items.ensures) in
    subst (λ (p : Tree). IfOk c.begun_turn.result (λ made. control made ≡ begun (names_at c.args.place.now) (values_at c.args.place.now) p)) (sym e) c.begun_turn.ensures

pub begun-returns-in-Par : goal.begun-returns-in-Par
begun-returns-in-Par t c =
    let e = ap tree c.in-Par.is ∙ tree-Par c.in-Par.parts ∙ ap (λ ps. par (trees ps)) (sym c.items-in-Par.ensures) in
    subst (λ (p : Tree). IfOk c.begun_all.result (λ made. control made ≡ begun (names_at c.args.place.now) (values_at c.args.place.now) p)) (sym e) c.begun_all.ensures

pub begun-returns-in-If : goal.begun-returns-in-If
begun-returns-in-If t c =
    let e = ap tree c.in-If.is ∙ tree-If c.in-If.choices ∙ ap (λ cs. select (cases cs)) (sym c.items-in-If.ensures) in
    subst (λ (p : Tree). IfOk c.begun_choice.result (λ made. control made ≡ begun (names_at c.args.place.now) (values_at c.args.place.now) p)) (sym e) c.begun_choice.ensures

pub begun-returns-in_ok-control-in-Chan : goal.begun-returns-in_ok-control-in-Chan
unfolding tree
begun-returns-in_ok-control-in-Chan t c =
    let whole = ap tree c.in-Chan.is ∙ ap (connect c.in-Chan.name.0 c.in-Chan.width) (sym (ap tree c.deref.ensures) ∙ c.in_ok-more-in-Chan.ensures) in
    begun_row (names_at c.args.place.now) (values_at c.args.place.now) (names_at c.in_ok-inner-in-Chan.inner) (values_at c.in_ok-inner-in-Chan.inner)
    (c.in-Chan.name, c.in-Chan.width) c.in_ok-more-in-Chan.more.items c.deref-in-Chan.result.now (tree c.args.part.now) (tree c.in_ok-more-in-Chan.rest.now) c.in_ok-control-in-Chan.control c.in_channels.result
    whole c.deref-in-Chan.ensures.value c.in_ok-inner-in-Chan.ensures.scope (ap values c.in_ok-inner-in-Chan.ensures.state) c.in_ok-control-in-Chan.ensures c.in_channels.ensures

pub begun_all-begun-requires : goal.begun_all-begun-requires
begun_all-begun-requires t c =
    let some : 0 < length c.loop-rest.rest.now = omega arith in
    let e = all_front (names_at c.args.place.now) c.loop-rest.rest.now c.part-item.result some c.part-item.is c.loop-rest.invariant.kept in
    let w = lighter_part c.loop-rest.rest.now c.part-item.result some c.part-item.is in
    (omega (arith, w, c.loop-rest.invariant.less, c.decreases), e.0)

pub begun_turn-begun-requires : goal.begun_turn-begun-requires
begun_turn-begun-requires t c =
    let some : 0 < length c.loop-rest.rest.now = omega arith in
    let e = all_front (names_at c.args.place.now) c.loop-rest.rest.now c.first-item.result some c.first-item.is c.loop-rest.invariant.kept in
    let w = lighter_part c.loop-rest.rest.now c.first-item.result some c.first-item.is in
    (omega (arith, w, c.loop-rest.invariant.less, c.decreases), e.0)

pub begun_turn-loop-rest-preserved : goal.begun_turn-loop-rest-preserved
begun_turn-loop-rest-preserved t c =
    let some : 0 < length c.loop-rest.rest.now = omega arith in
    let w = lighter_later c.loop-rest.rest.now c.first-item.result some c.first-item.is in
    record {
      whole = turn_over (names_at c.args.place.now) (values_at c.args.place.now) c.loop-rest.rest.now c.first-item.result (control c.in_ok-control.control) _ some c.first-item.is c.in_ok-control.ensures
          (sym c.is_over.ensures ∙ c.if-not-is_over.false) c.loop-rest.invariant.whole;
      kept = (all_front (names_at c.args.place.now) c.loop-rest.rest.now c.first-item.result some c.first-item.is c.loop-rest.invariant.kept).1;
      less = omega (arith, w, c.loop-rest.invariant.less);
    }

pub begun_all-loop-rest-preserved : goal.begun_all-loop-rest-preserved
begun_all-loop-rest-preserved t c =
    let some : 0 < length c.loop-rest.rest.now = omega (arith, c.in-len1-up.len_at_least) in
    let front = front_is c.loop-rest.rest.now c.part-item.result some c.part-item.is in
    let w = lighter_later c.loop-rest.rest.now c.part-item.result some c.part-item.is in
    record {
      whole = one_made c.loop-rest.controls.items c.push.new.self.items c.in_ok-new.field-0 _ _ _ _ c.in_ok-push.ensures.items (ap control c.in_ok-new.ensures.ok ∙ c.in_ok-begun.ensures)
          (ap (λ ps. begun_all (names_at c.args.place.now) (values_at c.args.place.now) (trees ps)) front) c.loop-rest.invariant.whole;
      kept = (all_front (names_at c.args.place.now) c.loop-rest.rest.now c.part-item.result some c.part-item.is c.loop-rest.invariant.kept).1;
      less = omega (arith, w, c.loop-rest.invariant.less);
    }

pub begun_all-returns : goal.begun_all-returns
begun_all-returns t c =
    c.side_by_side.ensures
    ∙ ap side_by_side (all_made c.loop-rest.controls.items _ _ (ap (λ ps. begun_all (names_at c.args.place.now) (values_at c.args.place.now) (trees ps)) (none_is c.loop-rest.rest.now c.in_default.len_below)) c.loop-rest.invariant.whole)

pub begun_choice-begun-requires : goal.begun_choice-begun-requires
begun_choice-begun-requires t c =
    let some : 0 < length c.loop-rest.rest.now = omega (arith, c.in-len1-up.len_at_least) in
    let d = c.index-rest-0-in-loop-rest.result in
    let is = c.index-rest-0-in-loop-rest.is in
    let w = lighter_case c.loop-rest.rest.now d some is in
    let same = ap (λ (x : Expr × Proc). weight (tree x.1)) is in (
      omega (arith, w, same, c.loop-rest.invariant.less, c.decreases),
      sym (ap (λ (x : Expr × Proc). types_kept (tree x.1) (names_at c.args.place.now)) is) ∙ (case_front (names_at c.args.place.now) c.loop-rest.rest.now d some is c.loop-rest.invariant.kept).1,
    )

pub begun_choice-loop-rest-preserved : goal.begun_choice-loop-rest-preserved
begun_choice-loop-rest-preserved t c =
    let some : 0 < length c.loop-rest.rest.now = omega (arith, c.in-len1-up.len_at_least) in
    let d = c.index-rest-0.result in
    let is = c.index-rest-0.is in
    let w = lighter_choices c.loop-rest.rest.now d some is in
    let no = not_one c.value.result _ (c.value.ensures ∙ sym (ap (λ (x : Expr × Proc). eval (names_at c.args.place.now) (exp x.0) (values_at c.args.place.now)) is)) c.if-value-eq1.false in
    record {
      whole = choice_over (names_at c.args.place.now) (values_at c.args.place.now) c.loop-rest.rest.now d _ some is no c.loop-rest.invariant.whole;
      kept = (case_front (names_at c.args.place.now) c.loop-rest.rest.now d some is c.loop-rest.invariant.kept).2;
      less = omega (arith, w, c.loop-rest.invariant.less);
    }
