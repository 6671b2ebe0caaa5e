use Rattle.std.proofs.Common.{◌-◌, ◌≡◌, ◌<◌, ◌∙◌, IfOk, IfSome, ap, drop, length, sym, suc, subst, take, add-one, arith}
use Rattle.std.proofs.lemmas.List.{take_all}
use Rattle.occ_norm_frame.specs.occ_bits.Layout.{environment_in}
use Rattle.occ_norm_frame.proofs.from_dd.Callers.{known-keeps}
use Rattle.occ_norm_frame.proofs.Placing.{case_at, case_condition, fit_at, fits_assign, fits_select, fits_seq, pairs_length}
use Rattle.occ_norm_frame.proofs.Worlds.{extends_refl, extends_trans}
use Rattle.occ_syntax.specs.Tree.{assign, select, seq}
use Rattle.occ_syntax.specs.View.{cases, exp, exps, numbers, tree, trees}
use Rattle.occ_syntax.proofs.Views.{tree-If, tree-Seq}
use Rattle.occ_syntax.proofs.Weights.{weight-select, weight-seq, weight_in_all, weight_in_cases}
use Rattle.occ_norm_assign.specs.Lists.{ArePicked, ArePutOn, AreStates, IsListed}
use Rattle.occ_norm_assign.proofs.Listing.{AreChosenOn, all_chosen_on, assigned_listed, chosen_on_step, listed_more, none_chosen_on, none_listed, picked_states}
use Rattle.occ_norm_assign.proofs.Runs.{cases_left, dropped_all, some_found, trees_next}
use Rattle.occ_norm_assign.proofs.lists.+listed.Goals as goal

-- ---- the parts of a SEQ
pub listed_all-loop-place-init : goal.listed_all-loop-place-init
listed_all-loop-place-init t c = record {
  extends = extends_refl c.args.world.now;
  made = subst (IsListed c.args.frame.now.vars c.args.frame.now.layout c.args.frame.now.bits (seq (trees (take 0 c.args.parts.now))) c.args.before.now) (sym c.in_ok-now.ensures.items)
      (none_listed c.args.frame.now.vars c.args.frame.now.layout c.args.frame.now.bits c.args.before.now c.requires.before);
}

pub listed_all-listed-requires : goal.listed_all-listed-requires
listed_all-listed-requires t c =
    let lt : c.loop-place.place < length c.args.parts.now = omega arith in (
      omega (arith, weight_in_all c.args.parts.now c.loop-place.place c.index-parts-place.result lt c.index-parts-place.is, c.decreases),
      (
        c.requires.bits,
        (subst (AreStates c.args.frame.now.bits) (sym c.deref.ensures.value) c.loop-place.invariant.made.are, fit_at c.args.frame.now.vars c.args.parts.now c.loop-place.place c.index-parts-place.result c.requires.parts lt c.index-parts-place.is),
      ),
    )

pub listed_all-loop-place-preserved : goal.listed_all-loop-place-preserved
listed_all-loop-place-preserved t c =
    let frame = c.args.frame.now in
    let parts = c.args.parts.now in
    let place = c.loop-place.place in
    record {
      extends = extends_trans c.args.world.now c.loop-place.world c.listed.new.world c.loop-place.invariant.extends c.listed.ensures.extends;
      made = subst (λ n. IsListed frame.vars frame.layout frame.bits (seq (trees (take n parts))) c.args.before.now c.in-Some.next.items) (sym (add-one place))
          (listed_more frame.vars frame.layout frame.bits (trees (take place parts)) (trees (take (suc place) parts)) (tree c.index-parts-place.result) c.args.before.now c.loop-place.now.items c.in-Some.next.items
          (trees_next parts place c.index-parts-place.result (omega arith) c.index-parts-place.is)
          c.loop-place.invariant.made
          (subst (λ ds. IsListed frame.vars frame.layout frame.bits (tree c.index-parts-place.result) ds c.in-Some.next.items) c.deref.ensures.value (some_found _ c.in_ok-next.field-0 c.in-Some.next c.in-Some.is c.in_ok-next.ensures.made)));
    }

pub listed_all-returns-clause-made : goal.listed_all-returns-clause-made
listed_all-returns-clause-made t c =
    subst (λ ps. IsListed c.args.frame.now.vars c.args.frame.now.layout c.args.frame.now.bits (seq (trees ps)) c.args.before.now c.loop-place.now.items)
    (take_all c.loop-place.place c.args.parts.now (omega arith)) c.loop-place.invariant.made

-- ---- the choices of an IF
pub listed_choices-loop-left-init : goal.listed_choices-loop-left-init
listed_choices-loop-left-init t c =
    let w = c.args.world.now in
    record {
      extends = extends_refl w;
      below = omega arith;
      are = subst (AreStates c.args.frame.now.bits) (sym c.in_ok-after.ensures.items) c.requires.before;
      known = c.full-beyond.ensures.known;
      chosen = subst (λ cs. AreChosenOn w c.args.frame.now.vars c.args.frame.now.layout c.args.frame.now.bits (cases cs) c.args.before.now c.in_ok-after.after.items c.full-beyond.result) (sym (dropped_all c.args.choices.now))
          (none_chosen_on w c.args.frame.now.vars c.args.frame.now.layout c.args.frame.now.bits c.args.before.now c.in_ok-after.after.items c.full-beyond.result c.full-beyond.ensures);
    }

pub listed_choices-listed-requires : goal.listed_choices-listed-requires
listed_choices-listed-requires t c =
    let lt : c.loop-left.left - 1 < length c.args.choices.now = omega (arith, c.loop-left.invariant.below, c.loop-left-test.true) in (
      omega (arith, weight_in_cases c.args.choices.now (c.loop-left.left - 1) c.index-choices-left.result lt c.index-choices-left.is, c.decreases),
      (c.requires.bits, (c.requires.before, case_at c.args.frame.now.vars c.args.choices.now (c.loop-left.left - 1) c.index-choices-left.result c.requires.choices lt c.index-choices-left.is)),
    )

pub listed_choices-holds-requires : goal.listed_choices-holds-requires
listed_choices-holds-requires t c = case_condition c.args.frame.now.vars c.args.frame.now.layout c.args.frame.now.bits c.args.frame.now.kept c.args.choices.now (c.loop-left.left - 1) c.index-choices-left.result c.requires.choices (omega (arith, c.loop-left.invariant.below, c.loop-left-test.true)) c.index-choices-left.is

pub listed_choices-pick-requires-clause-set : goal.listed_choices-pick-requires-clause-set
listed_choices-pick-requires-clause-set t c = known-keeps c.holds.new.world.store c.without.new.self.store c.without.ensures.extends.grows.stored c.in_ok-set.set c.in_ok-set.ensures.set.known

pub listed_choices-pick-requires-clause-there : goal.listed_choices-pick-requires-clause-there
listed_choices-pick-requires-clause-there t c =
    let there = some_found _ c.in_ok-there.field-0 c.in-Some.there c.in-Some.is c.in_ok-there.ensures.made in
    ap length c.deref.ensures.value ∙ there.are.count ∙ sym c.requires.before.count

pub listed_choices-pick-requires-clause-after : goal.listed_choices-pick-requires-clause-after
listed_choices-pick-requires-clause-after t c = c.loop-left.invariant.are.count ∙ sym c.requires.before.count

pub listed_choices-loop-left-preserved : goal.listed_choices-loop-left-preserved
listed_choices-loop-left-preserved t c =
    let frame = c.args.frame.now in
    let choice = c.index-choices-left.result in
    let v = c.loop-left.world in
    let a = c.listed.new.world in
    let b = c.holds.new.world in
    let w = c.without.new.self in
    let va = c.listed.ensures.extends in
    let ab = c.holds.ensures.extends in
    let bw = c.without.ensures.extends in
    let vw = extends_trans v b w (extends_trans v a b va ab) bw in
    let set = c.in_ok-set.set in
    let next = c.pick.new.after.items in
    let there = some_found _ c.in_ok-there.field-0 c.in-Some.there c.in-Some.is c.in_ok-there.ensures.made in
    let merged = subst (λ ys. ArePicked w.store set c.args.before.now ys c.loop-left.after.items next) c.deref.ensures.value c.pick.ensures.picked in
    record {
      extends = extends_trans c.args.world.now v w c.loop-left.invariant.extends vw;
      below = omega (arith, c.loop-left.invariant.below);
      are = picked_states w.store frame.bits set c.args.before.now c.in-Some.there.items c.loop-left.after.items next c.requires.before there.are c.loop-left.invariant.are c.pick.ensures.all merged;
      known = c.in_ok-fewer.ensures.set.known;
      chosen = subst (λ cs. AreChosenOn w frame.vars frame.layout frame.bits cs c.args.before.now next c.in_ok-fewer.fewer)
          (sym (cases_left c.args.choices.now c.loop-left.left choice (omega (arith, c.loop-left-test.true)) c.loop-left.invariant.below c.index-choices-left.is))
          (chosen_on_step v a b w va ab bw frame.vars frame.layout frame.bits frame.kept (exp choice.0) (tree choice.1) (cases (drop c.loop-left.left c.args.choices.now))
          c.args.before.now c.in-Some.there.items c.loop-left.after.items next set c.loop-left.beyond c.in_ok-fewer.fewer
          c.requires.before.count c.loop-left.invariant.known there c.in_ok-set.ensures.set c.in_ok-fewer.ensures.set merged c.loop-left.invariant.chosen);
    }

pub listed_choices-returns-clause-made : goal.listed_choices-returns-clause-made
listed_choices-returns-clause-made t c =
    let none : c.loop-left.left ≡ 0 = omega (arith, c.loop-left-test.false) in
    let w = c.loop-left.world in
    all_chosen_on w c.args.frame.now.vars c.args.frame.now.layout c.args.frame.now.bits (cases c.args.choices.now) c.args.before.now c.loop-left.after.items c.loop-left.beyond c.empty.result
    c.loop-left.invariant.are c.empty.ensures c.if-beyond-empty.false
    (subst (λ k. AreChosenOn w c.args.frame.now.vars c.args.frame.now.layout c.args.frame.now.bits (cases (drop k c.args.choices.now)) c.args.before.now c.loop-left.after.items c.loop-left.beyond) none c.loop-left.invariant.chosen)

-- ---- a part by its form
pub listed-listed_all-requires : goal.listed-listed_all-requires
listed-listed_all-requires t c =
    let e = (ap tree c.in-Seq.is ∙ tree-Seq c.in-Seq.parts ∙ ap (λ ps. seq (trees ps)) (sym c.items-in-Seq.ensures)) in
    (omega (arith, weight-seq _ _ e, c.decreases), (c.requires.bits, (c.requires.before, fits_seq _ _ _ c.requires.part e)))

pub listed-listed_choices-requires : goal.listed-listed_choices-requires
listed-listed_choices-requires t c =
    let e = (ap tree c.in-If.is ∙ tree-If c.in-If.choices ∙ ap (λ cs. select (cases cs)) (sym c.items-in-If.ensures)) in
    (omega (arith, weight-select _ _ e, c.decreases), (c.requires.bits, (c.requires.before, fits_select _ _ _ c.requires.part e)))

pub listed-writes_of-requires-clause-pairs : goal.listed-writes_of-requires-clause-pairs
unfolding tree
listed-writes_of-requires-clause-pairs t c = fits_assign c.args.frame.now.vars c.args.frame.now.layout c.args.frame.now.bits c.args.frame.now.kept _ _ _ c.requires.part (ap tree c.in-Assign.is ∙ (λ i. assign (numbers (sym c.items.ensures i)) (exps (sym c.items-in-Assign.ensures i))))

pub listed-writes_of-requires-clause-same : goal.listed-writes_of-requires-clause-same
unfolding tree
listed-writes_of-requires-clause-same t c =
    pairs_length (environment_in c.args.frame.now.layout) c.items.result.now c.items-in-Assign.result.now
    (fits_assign c.args.frame.now.vars c.args.frame.now.layout c.args.frame.now.bits c.args.frame.now.kept _ _ _ c.requires.part (ap tree c.in-Assign.is ∙ (λ i. assign (numbers (sym c.items.ensures i)) (exps (sym c.items-in-Assign.ensures i)))))

pub listed-returns-in_ok-after-in-Assign-clause-made : goal.listed-returns-in_ok-after-in-Assign-clause-made
unfolding tree
listed-returns-in_ok-after-in-Assign-clause-made t c =
    let frame = c.args.frame.now in
    let w = c.writes_of.new.world in
    let is : tree c.args.part.now ≡ assign (numbers c.items.result.now) (exps c.items-in-Assign.result.now) = ap tree c.in-Assign.is ∙ (λ i. assign (numbers (sym c.items.ensures i)) (exps (sym c.items-in-Assign.ensures i))) in
    let pairs = fits_assign frame.vars frame.layout frame.bits frame.kept _ _ _ c.requires.part is in
    subst (λ q. IsListed frame.vars frame.layout frame.bits q c.args.before.now c.in_ok-after-in-Assign.after.items) (sym is)
    (assigned_listed w.store frame.vars frame.layout frame.bits frame.kept (numbers c.items.result.now) (exps c.items-in-Assign.result.now) pairs c.in_ok-writes-in-Assign.writes.items
    c.in_ok-writes-in-Assign.ensures.assigned
    c.args.before.now c.in_ok-after-in-Assign.after.items c.in_ok-after-in-Assign.ensures.are
    (subst (λ ws. ArePutOn w.store frame.bits ws c.args.before.now c.in_ok-after-in-Assign.after.items) c.deref.ensures.value c.in_ok-after-in-Assign.ensures.put))

pub listed-returns-in-Seq-clause-made : goal.listed-returns-in-Seq-clause-made
listed-returns-in-Seq-clause-made t c =
    subst (λ q. IfOk c.listed_all.result (λ found. IfSome found (λ r. IsListed c.args.frame.now.vars c.args.frame.now.layout c.args.frame.now.bits q c.args.before.now r.items)))
    (sym (ap tree c.in-Seq.is ∙ tree-Seq c.in-Seq.parts ∙ ap (λ ps. seq (trees ps)) (sym c.items-in-Seq.ensures))) c.listed_all.ensures.made

pub listed-returns-in-If-clause-made : goal.listed-returns-in-If-clause-made
listed-returns-in-If-clause-made t c =
    subst (λ q. IfOk c.listed_choices.result (λ found. IfSome found (λ r. IsListed c.args.frame.now.vars c.args.frame.now.layout c.args.frame.now.bits q c.args.before.now r.items)))
    (sym (ap tree c.in-If.is ∙ tree-If c.in-If.choices ∙ ap (λ cs. select (cases cs)) (sym c.items-in-If.ensures))) c.listed_choices.ensures.made
