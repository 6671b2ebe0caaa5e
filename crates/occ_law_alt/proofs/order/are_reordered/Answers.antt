use Rattle.std.proofs.Common.{◌≡◌, ◌<◌, ◌==◌, length, arith, ap, sym, ◌∙◌, map, subst, vec_len}
use Rattle.std.proofs.lemmas.List.{length-map}
use Rattle.occ_syntax.specs.View.{branches}
use Rattle.occ_syntax.proofs.Rows.{refuted}
use Rattle.occ_law_shape.specs.occ_law.Lists.{BranchesReordered}
use Rattle.occ_law_shape.proofs.Fronts.{branches_end, branches_front, test_of}
use Rattle.occ_law_alt.proofs.Cancelled.{cancel_never, cancel_turn, cancel_whole}
use Rattle.occ_law_alt.proofs.order.are_reordered.Goals as goal

pub loop-rest-init : goal.loop-rest-init
loop-rest-init c = ((λ r. subst (λ l. BranchesReordered (branches c.args.alternatives.now) (branches l)) c.in_ok-left_over.ensures r), (λ r. subst (λ l. BranchesReordered (branches c.args.alternatives.now) (branches l)) (sym c.in_ok-left_over.ensures) r))

pub loop-rest-preserved : goal.loop-rest-preserved
loop-rest-preserved c =
    let some : 0 < length c.loop-rest.rest.now = omega arith in
    cancel_turn c.branch-item.result _ _ _ _ (branches_front c.loop-rest.rest.now c.branch-item.result some c.branch-item.is) c.if-not-cancel.ensures c.loop-rest.invariant

pub returns-then-not-cancel : goal.returns-then-not-cancel
returns-then-not-cancel c =
    let some : 0 < length c.loop-rest.rest.now = omega arith in
    refuted (cancel_never c.branch-item.result _ _ _ (branches_front c.loop-rest.rest.now c.branch-item.result some c.branch-item.is) c.if-not-cancel.ensures c.loop-rest.invariant)

pub returns : goal.returns
returns c =
    let none : length c.loop-rest.rest.now < 1 = omega arith in
    let long : vec_len c.loop-rest.left_over ≡ length (map (λ other. other.now) c.loop-rest.left_over.items) = omega (arith, c.loop-rest.left_over.ok.0, length-map c.loop-rest.left_over.items (λ other. other.now)) in
    cancel_whole _ (map (λ other. other.now) c.loop-rest.left_over.items) c.is_empty.result (branches_end c.loop-rest.rest.now none) c.loop-rest.invariant (test_of _ _ (c.is_empty.ensures ∙ ap (λ n. n == 0) long))
