use Rattle.std.proofs.Common.{◌-◌, ◌≡◌, ◌<◌, ◌∙◌, IfOk, IfSome, ap, drop, length, sym, suc, subst, take, add-one, arith}
use Rattle.std.proofs.lemmas.List.{take_all}
use Rattle.occ_norm_frame.specs.occ_bits.Layout.{environment_in}
use Rattle.occ_norm_frame.proofs.from_dd.Callers.{known-keeps}
use Rattle.occ_norm_frame.specs.occ_bits.Digits.{AreDigits, IsEither}
use Rattle.occ_norm_frame.proofs.from_bits.Reaching.{digits-keep}
use Rattle.occ_norm_assign.proofs.Written.{assigned-keeps}
use Rattle.occ_norm_frame.proofs.Placing.{case_at, case_condition, fit_at, fits_assign, fits_select, fits_seq, pairs_length}
use Rattle.occ_norm_frame.proofs.Worlds.{extends_refl, extends_trans}
use Rattle.occ_syntax.specs.Tree.{assign, select, seq}
use Rattle.occ_syntax.specs.View.{cases, exp, exps, numbers, tree, trees}
use Rattle.occ_syntax.proofs.Views.{tree-If, tree-Seq}
use Rattle.occ_syntax.proofs.Weights.{weight-select, weight-seq, weight_in_all, weight_in_cases}
use Rattle.occ_norm_assign.specs.Transfer.{ArePut, IsMade}
use Rattle.occ_norm_assign.proofs.Choosing.{AreChosen, all_chosen, chosen_step, none_chosen}
use Rattle.occ_norm_assign.proofs.Moving.{assigned_made, made-extends, made_more, none_made}
use Rattle.occ_norm_assign.proofs.Runs.{cases_left, dropped_all, some_found, trees_next}
use Rattle.occ_norm_assign.proofs.moves.+moved.Goals as goal

-- ---- the parts of a SEQ
pub in_turn-loop-place-init : goal.in_turn-loop-place-init
in_turn-loop-place-init t c = record {
  extends = extends_refl c.args.world.now;
  made = subst (IsMade c.args.world.now c.args.frame.now.vars c.args.frame.now.layout (seq (trees (take 0 c.args.parts.now))) c.args.before.now) (sym c.in_ok-now.ensures.items)
      (none_made c.args.world.now c.args.frame.now.vars c.args.frame.now.layout c.args.before.now c.requires.before);
}

pub in_turn-moved-requires : goal.in_turn-moved-requires
in_turn-moved-requires t c =
    let lt : c.loop-place.place < length c.args.parts.now = omega arith in (
      omega (arith, weight_in_all c.args.parts.now c.loop-place.place c.index-parts-place.result lt c.index-parts-place.is, c.decreases),
      (subst (AreDigits c.loop-place.world.store) (sym c.deref.ensures.value) c.loop-place.invariant.made.are, fit_at c.args.frame.now.vars c.args.parts.now c.loop-place.place c.index-parts-place.result c.requires.parts lt c.index-parts-place.is),
    )

pub in_turn-loop-place-preserved : goal.in_turn-loop-place-preserved
in_turn-loop-place-preserved t c =
    let frame = c.args.frame.now in
    let parts = c.args.parts.now in
    let place = c.loop-place.place in
    let v = c.loop-place.world in
    let w = c.moved.new.world in
    let before = digits-keep c.args.world.now.store v.store c.loop-place.invariant.extends.grows.stored c.args.before.now c.requires.before in
    record {
      extends = extends_trans c.args.world.now v w c.loop-place.invariant.extends c.moved.ensures.extends;
      made = subst (λ n. IsMade w frame.vars frame.layout (seq (trees (take n parts))) c.args.before.now c.in-Some.next.items) (sym (add-one place))
          (made_more w frame.vars frame.layout (trees (take place parts)) (trees (take (suc place) parts)) (tree c.index-parts-place.result) c.args.before.now c.loop-place.now.items c.in-Some.next.items
          (trees_next parts place c.index-parts-place.result (omega arith) c.index-parts-place.is)
          (made-extends v w c.moved.ensures.extends frame.vars frame.layout (seq (trees (take place parts))) c.args.before.now c.loop-place.now.items before c.loop-place.invariant.made)
          (subst (λ ds. IsMade w frame.vars frame.layout (tree c.index-parts-place.result) ds c.in-Some.next.items) c.deref.ensures.value (some_found _ c.in_ok-next.field-0 c.in-Some.next c.in-Some.is c.in_ok-next.ensures.made)));
    }

pub in_turn-returns-clause-made : goal.in_turn-returns-clause-made
in_turn-returns-clause-made t c =
    subst (λ ps. IsMade c.loop-place.world c.args.frame.now.vars c.args.frame.now.layout (seq (trees ps)) c.args.before.now c.loop-place.now.items)
    (take_all c.loop-place.place c.args.parts.now (omega arith)) c.loop-place.invariant.made

-- ---- the choices of an IF
pub chosen-loop-left-init : goal.chosen-loop-left-init
chosen-loop-left-init t c =
    let w = c.args.world.now in
    record {
      extends = extends_refl w;
      below = omega arith;
      are = subst (AreDigits w.store) (sym c.in_ok-after.ensures.items) c.requires.before;
      known = c.full-beyond.ensures.known;
      chosen = subst (λ cs. AreChosen w c.args.frame.now.vars c.args.frame.now.layout (cases cs) c.args.before.now c.in_ok-after.after.items c.full-beyond.result) (sym (dropped_all c.args.choices.now))
          (none_chosen w c.args.frame.now.vars c.args.frame.now.layout c.args.before.now c.in_ok-after.after.items c.full-beyond.result c.full-beyond.ensures);
    }

pub chosen-moved-requires : goal.chosen-moved-requires
chosen-moved-requires t c =
    let lt : c.loop-left.left - 1 < length c.args.choices.now = omega (arith, c.loop-left.invariant.below, c.loop-left-test.true) in (
      omega (arith, weight_in_cases c.args.choices.now (c.loop-left.left - 1) c.index-choices-left.result lt c.index-choices-left.is, c.decreases),
      (
        digits-keep c.args.world.now.store c.loop-left.world.store c.loop-left.invariant.extends.grows.stored c.args.before.now c.requires.before,
        case_at c.args.frame.now.vars c.args.choices.now (c.loop-left.left - 1) c.index-choices-left.result c.requires.choices lt c.index-choices-left.is,
      ),
    )

pub chosen-held-requires-clause-condition : goal.chosen-held-requires-clause-condition
chosen-held-requires-clause-condition t c = case_condition c.args.frame.now.vars c.args.frame.now.layout c.args.frame.now.bits c.args.frame.now.kept c.args.choices.now (c.loop-left.left - 1) c.index-choices-left.result c.requires.choices (omega (arith, c.loop-left.invariant.below, c.loop-left-test.true)) c.index-choices-left.is

pub chosen-held-requires-clause-before : goal.chosen-held-requires-clause-before
chosen-held-requires-clause-before t c =
    let k = extends_trans c.args.world.now c.loop-left.world c.moved.new.world c.loop-left.invariant.extends c.moved.ensures.extends in
    digits-keep c.args.world.now.store c.moved.new.world.store k.grows.stored c.args.before.now c.requires.before

pub chosen-loop-left-preserved : goal.chosen-loop-left-preserved
chosen-loop-left-preserved t c =
    let frame = c.args.frame.now in
    let choice = c.index-choices-left.result in
    let v = c.loop-left.world in
    let a = c.moved.new.world in
    let b = c.held.new.world in
    let u = c.without.new.self in
    let w = c.either.new.world in
    let va = c.moved.ensures.extends in
    let ab = c.held.ensures.extends in
    let bu = c.without.ensures.extends in
    let uw = c.either.ensures.extends in
    let vw = extends_trans v u w (extends_trans v b u (extends_trans v a b va ab) bu) uw in
    let before = digits-keep c.args.world.now.store v.store c.loop-left.invariant.extends.grows.stored c.args.before.now c.requires.before in
    let set = c.in_ok-set.set in
    let merged = subst (λ ys. IsEither w.store set ys c.loop-left.after.items c.in_ok-next.next.items) c.deref.ensures.value
    (subst (λ ns. IsEither w.store set c.deref.result.now ns c.in_ok-next.next.items) c.deref-in-loop-left.ensures.value c.in_ok-next.ensures.either) in
    record {
      extends = extends_trans c.args.world.now v w c.loop-left.invariant.extends vw;
      below = omega (arith, c.loop-left.invariant.below);
      are = c.in_ok-next.ensures.either.are;
      known = known-keeps u.store w.store uw.grows.stored c.in_ok-fewer.fewer c.in_ok-fewer.ensures.set.known;
      chosen = subst (λ cs. AreChosen w frame.vars frame.layout cs c.args.before.now c.in_ok-next.next.items c.in_ok-fewer.fewer)
          (sym (cases_left c.args.choices.now c.loop-left.left choice (omega (arith, c.loop-left-test.true)) c.loop-left.invariant.below c.index-choices-left.is))
          (chosen_step v a b u w va ab bu uw frame.vars frame.layout frame.bits frame.kept (exp choice.0) (tree choice.1) (cases (drop c.loop-left.left c.args.choices.now))
          c.args.before.now c.in-Some.there.items c.loop-left.after.items c.in_ok-next.next.items c.in_ok-set.set c.loop-left.beyond c.in_ok-fewer.fewer
          before c.loop-left.invariant.are c.loop-left.invariant.known (some_found _ c.in_ok-there.field-0 c.in-Some.there c.in-Some.is c.in_ok-there.ensures.made) c.in_ok-set.ensures.held c.in_ok-fewer.ensures.set merged c.loop-left.invariant.chosen);
    }

pub chosen-returns-clause-made : goal.chosen-returns-clause-made
chosen-returns-clause-made t c =
    let none : c.loop-left.left ≡ 0 = omega (arith, c.loop-left-test.false) in
    let w = c.loop-left.world in
    all_chosen w c.args.frame.now.vars c.args.frame.now.layout (cases c.args.choices.now) c.args.before.now c.loop-left.after.items c.loop-left.beyond c.empty.result
    c.loop-left.invariant.are c.empty.ensures c.if-beyond-empty.false
    (subst (λ k. AreChosen w c.args.frame.now.vars c.args.frame.now.layout (cases (drop k c.args.choices.now)) c.args.before.now c.loop-left.after.items c.loop-left.beyond) none c.loop-left.invariant.chosen)

-- ---- a part by its form
pub moved-in_turn-requires : goal.moved-in_turn-requires
moved-in_turn-requires t c =
    let e = (ap tree c.in-Seq.is ∙ tree-Seq c.in-Seq.parts ∙ ap (λ ps. seq (trees ps)) (sym c.items-in-Seq.ensures)) in
    (omega (arith, weight-seq _ _ e, c.decreases), (c.requires.before, fits_seq _ _ _ c.requires.part e))

pub moved-chosen-requires : goal.moved-chosen-requires
moved-chosen-requires t c =
    let e = (ap tree c.in-If.is ∙ tree-If c.in-If.choices ∙ ap (λ cs. select (cases cs)) (sym c.items-in-If.ensures)) in
    (omega (arith, weight-select _ _ e, c.decreases), (c.requires.before, fits_select _ _ _ c.requires.part e))

pub moved-writes_of-requires-clause-pairs : goal.moved-writes_of-requires-clause-pairs
unfolding tree
moved-writes_of-requires-clause-pairs t c = fits_assign c.args.frame.now.vars c.args.frame.now.layout c.args.frame.now.bits c.args.frame.now.kept _ _ _ c.requires.part (ap tree c.in-Assign.is ∙ (λ i. assign (numbers (sym c.items.ensures i)) (exps (sym c.items-in-Assign.ensures i))))

pub moved-writes_of-requires-clause-same : goal.moved-writes_of-requires-clause-same
unfolding tree
moved-writes_of-requires-clause-same t c =
    pairs_length (environment_in c.args.frame.now.layout) c.items.result.now c.items-in-Assign.result.now
    (fits_assign c.args.frame.now.vars c.args.frame.now.layout c.args.frame.now.bits c.args.frame.now.kept _ _ _ c.requires.part (ap tree c.in-Assign.is ∙ (λ i. assign (numbers (sym c.items.ensures i)) (exps (sym c.items-in-Assign.ensures i)))))

pub moved-returns-in_ok-after-in-Assign-clause-made : goal.moved-returns-in_ok-after-in-Assign-clause-made
unfolding tree
moved-returns-in_ok-after-in-Assign-clause-made t c =
    let frame = c.args.frame.now in
    let w = c.put.new.world in
    let is : tree c.args.part.now ≡ assign (numbers c.items.result.now) (exps c.items-in-Assign.result.now) = ap tree c.in-Assign.is ∙ (λ i. assign (numbers (sym c.items.ensures i)) (exps (sym c.items-in-Assign.ensures i))) in
    let pairs = fits_assign frame.vars frame.layout frame.bits frame.kept _ _ _ c.requires.part is in
    subst (λ q. IsMade w frame.vars frame.layout q c.args.before.now c.in_ok-after-in-Assign.after.items) (sym is)
    (assigned_made w frame.vars frame.layout frame.bits frame.kept (numbers c.items.result.now) (exps c.items-in-Assign.result.now) pairs c.in_ok-writes-in-Assign.writes.items
    (assigned-keeps c.writes_of.new.world.store w.store c.put.ensures.extends.grows.stored frame.layout (numbers c.items.result.now) (exps c.items-in-Assign.result.now) c.in_ok-writes-in-Assign.writes.items c.in_ok-writes-in-Assign.ensures.assigned)
    c.args.before.now c.in_ok-after-in-Assign.after.items c.in_ok-after-in-Assign.ensures.are
    (subst (λ ws. ArePut w.store c.args.before.now ws c.in_ok-after-in-Assign.after.items) c.deref.ensures.value c.in_ok-after-in-Assign.ensures.put))

pub moved-returns-in-Seq-clause-made : goal.moved-returns-in-Seq-clause-made
moved-returns-in-Seq-clause-made t c =
    subst (λ q. IfOk c.in_turn.result (λ found. IfSome found (λ r. IsMade c.in_turn.new.world c.args.frame.now.vars c.args.frame.now.layout q c.args.before.now r.items)))
    (sym (ap tree c.in-Seq.is ∙ tree-Seq c.in-Seq.parts ∙ ap (λ ps. seq (trees ps)) (sym c.items-in-Seq.ensures))) c.in_turn.ensures.made

pub moved-returns-in-If-clause-made : goal.moved-returns-in-If-clause-made
moved-returns-in-If-clause-made t c =
    subst (λ q. IfOk c.chosen.result (λ found. IfSome found (λ r. IsMade c.chosen.new.world c.args.frame.now.vars c.args.frame.now.layout q c.args.before.now r.items)))
    (sym (ap tree c.in-If.is ∙ tree-If c.in-If.choices ∙ ap (λ cs. select (cases cs)) (sym c.items-in-If.ensures))) c.chosen.ensures.made
