use Rattle.std.proofs.Common.{◌≡◌, ◌<◌, ◌∷◌, IfOk, List, [], true, not, length, sym, ap, subst, ◌∙◌, arith}
use Rattle.std.proofs.lemmas.Bool.{and_parts}
use Rattle.occ_syntax.specs.occ_base.declared.names.Name.{Name}
use Rattle.occ_syntax.specs.occ_base.declared.width.Width.{Width}
use Rattle.occ_syntax.specs.Scopes.{values}
use Rattle.occ_run_steps.specs.Control.{Control as Left, all_done, is_done}
use Rattle.occ_run_steps.specs.Kept.{all_types_held, types_held}
use Rattle.occ_run_steps.specs.Settled.{all_are_settled, all_settled, is_settled, settled, side_by_side}
use Rattle.occ_run_steps.proofs.Settling.{settled_stays}
use Rattle.occ_run.specs.Effects.{applied, applied_from, effect, if_moved, part_of}
use Rattle.occ_run.specs.Places.{names_at, values_at}
use Rattle.occ_run.specs.View.{control, controls, in_channels}
use Rattle.occ_run.proofs.Applying.{applied_in_channels}
use Rattle.occ_run.proofs.Beginning.{settled_row}
use Rattle.occ_run.proofs.Channels.{held_row}
use Rattle.occ_run.proofs.Fronts.{front_is, none_is}
use Rattle.occ_run.proofs.Rows.{all_made, one_made}
use Rattle.occ_run.proofs.Sizes.{size, size_both, size_in_channels, sizes}
use Rattle.occ_run.proofs.Walks.{parts_are}
use Rattle.occ_run.proofs.moving.+moved.Goals as goal
use Rattle.occ_run.proofs.moving.+moved.Goals.{all_moved-in-None+in_ok-next-in-None, all_moved-in-Some+in_ok-moved-in-Some+in_ok-next-in-Some}

pub all_moved-loop-rest-preserved : goal.all_moved-loop-rest-preserved
all_moved-loop-rest-preserved t c =
    let some : 0 < length c.loop-rest.rest.now = omega (arith, c.in-len1-up.len_at_least) in
    let front = front_is c.loop-rest.rest.now c.part-item.result some c.part-item.is in
    let w = ap (λ ps. sizes (controls ps)) front in
    let count = ap length front in
    let e = effect c.args.effect.now in
    let C = control c.part-item.result.value in
    let Γ = names_at c.args.place.now in
    let s = values_at c.args.place.now in
    let kept = and_parts (types_held (if_moved (part_of e c.loop-rest.index) C (λ d. applied C d)) Γ) _ (sym (ap (λ ps. all_types_held (applied_from c.loop-rest.index (controls ps) e) Γ) front) ∙ c.loop-rest.invariant.kept) in
    let rests = and_parts (is_settled C) _ (sym (ap (λ ps. all_are_settled (controls ps)) front) ∙ c.loop-rest.invariant.rests) in
    let next : control c.match-effect_on.next.value ≡ settled Γ s (if_moved (part_of e c.loop-rest.index) C (λ d. applied C d)) =
    elim c.match-effect_on.branch [
      | all_moved-in-None+in_ok-next-in-None w ↦
          ap (λ x. control x.value) w.next-is ∙ ap control w.in_ok-next-in-None.ensures.cases
          ∙ sym (ap (λ o. settled Γ s (if_moved o C (λ d. applied C d))) w.in-None.ensures ∙ settled_stays Γ s C rests.0)
      | all_moved-in-Some+in_ok-moved-in-Some+in_ok-next-in-Some w ↦
          ap (λ x. control x.value) w.next-is ∙ ap control w.in_ok-next-in-Some.ensures.ok ∙ w.in_ok-moved-in-Some.ensures
          ∙ ap (λ x. settled Γ s (applied (control x) (effect w.in-Some.effect.now))) w.deref.ensures
          ∙ sym (ap (λ o. settled Γ s (if_moved o C (λ d. applied C d))) w.in-Some.ensures)
    ] in
    record {
      whole = one_made c.loop-rest.all.items c.push.new.self.items c.match-effect_on.next _ _ _ _ c.in_ok-push.ensures.items next
          (ap (λ ps. all_settled Γ s (applied_from c.loop-rest.index (controls ps) e)) front) c.loop-rest.invariant.whole;
      kept = kept.1;
      rests = rests.1;
      less = omega (arith, w, c.loop-rest.invariant.less);
      counted = omega (arith, count, c.loop-rest.invariant.counted);
    }

pub all_moved-returns : goal.all_moved-returns
all_moved-returns t c =
    let e = effect c.args.effect.now in
    c.side_by_side.ensures
    ∙ ap side_by_side (all_made c.loop-rest.all.items _ _
    (ap (λ ps. all_settled (names_at c.args.place.now) (values_at c.args.place.now) (applied_from c.loop-rest.index (controls ps) e)) (none_is c.loop-rest.rest.now c.in_default.len_below)) c.loop-rest.invariant.whole)

pub moved-all_moved-requires : goal.moved-all_moved-requires
moved-all_moved-requires t c =
    let e = parts_are (control c.args.control.now) c.in-Both.parts c.deref-in-Both.result.now (ap control c.in-Both.is) c.deref-in-Both.ensures.value in
    let w = size_both _ _ e in
    let Cs = controls c.deref-in-Both.result.now in (
      omega (arith, w, c.decreases),
      (
        (and_parts (not (all_done Cs)) (all_are_settled Cs) (sym (ap is_settled e) ∙ c.requires.rests)).1,
        sym (ap (λ C. types_held (applied C (effect c.args.effect.now)) (names_at c.args.place.now)) e) ∙ c.requires.typed,
      ),
    )

pub moved-returns-in-Both : goal.moved-returns-in-Both
moved-returns-in-Both t c =
    let e = parts_are (control c.args.control.now) c.in-Both.parts c.deref-in-Both.result.now (ap control c.in-Both.is) c.deref-in-Both.ensures.value in
    subst (λ (C : Left). IfOk c.all_moved.result (λ next. control next ≡ settled (names_at c.args.place.now) (values_at c.args.place.now) (applied C (effect c.args.effect.now)))) (sym e) c.all_moved.ensures

pub moved-within-requires : goal.moved-within-requires
moved-within-requires t c =
    let E = effect c.args.effect.now in
    let cs = c.in-Channels.first ∷ c.in-Channels.more.items in
    (held_row (names_at c.args.place.now) c.in-Channels.first c.in-Channels.more.items c.deref-in-Channels.result.now (applied (control c.args.control.now) E) (applied (control c.in-Channels.body.value) E)
    (ap (λ x. applied (control x) E) c.in-Channels.is ∙ applied_in_channels cs (control c.in-Channels.body.value) E) c.deref-in-Channels.ensures.value c.requires.typed).0

-- what stands in CHANs in a row has nothing left to settle
settled_inside : (cs : List (Name × Width)) (B : Left) → is_settled (in_channels cs B) ≡ true → is_settled B ≡ true
settled_inside [] B h = h
settled_inside (c ∷ cs) B h = settled_inside cs B (and_parts (not (is_done (in_channels cs B))) (is_settled (in_channels cs B)) h).1

pub moved-moved-requires-in-Channels : goal.moved-moved-requires-in-Channels
moved-moved-requires-in-Channels t c =
    let E = effect c.args.effect.now in
    let cs = c.in-Channels.first ∷ c.in-Channels.more.items in
    let held = held_row (names_at c.args.place.now) c.in-Channels.first c.in-Channels.more.items c.deref-in-Channels.result.now (applied (control c.args.control.now) E) (applied (control c.in-Channels.body.value) E)
    (ap (λ x. applied (control x) E) c.in-Channels.is ∙ applied_in_channels cs (control c.in-Channels.body.value) E) c.deref-in-Channels.ensures.value c.requires.typed in
    let whole : size (control c.args.control.now) ≡ size (in_channels (c.in-Channels.first ∷ c.in-Channels.more.items) (control c.in-Channels.body.value)) = ap (λ x. size (control x)) c.in-Channels.is in
    let less = size_in_channels c.in-Channels.more.items (control c.in-Channels.body.value) in
    let same = ap (λ x. size (control x)) c.deref-in-Channels-2.ensures in (
      omega (arith, whole, less, same, c.decreases),
      (
        ap (λ x. is_settled (control x)) c.deref-in-Channels-2.ensures
            ∙ settled_inside cs (control c.in-Channels.body.value) (sym (ap (λ x. is_settled (control x)) c.in-Channels.is) ∙ c.requires.rests),
        ap (λ x. types_held (applied (control x) E) (names_at c.in_ok-inner-in-Channels.inner)) c.deref-in-Channels-2.ensures
            ∙ ap (types_held (applied (control c.in-Channels.body.value) E)) c.in_ok-inner-in-Channels.ensures.scope ∙ held.1,
      ),
    )

pub moved-returns-in_ok-from_slice-in-Channels : goal.moved-returns-in_ok-from_slice-in-Channels
moved-returns-in_ok-from_slice-in-Channels t c =
    let E = effect c.args.effect.now in
    let cs = c.in-Channels.first ∷ c.in-Channels.more.items in
    settled_row (names_at c.args.place.now) (values_at c.args.place.now) (names_at c.in_ok-inner-in-Channels.inner) (values_at c.in_ok-inner-in-Channels.inner)
    c.in-Channels.first c.in-Channels.more.items c.deref-in-Channels.result.now c.in_ok-from_slice-in-Channels.field-0.items (applied (control c.args.control.now) E) (applied (control c.in-Channels.body.value) E)
    c.in_ok-body-in-Channels.body c.in_channels.result (ap (λ x. applied (control x) E) c.in-Channels.is ∙ applied_in_channels cs (control c.in-Channels.body.value) E)
    (c.in_ok-from_slice-in-Channels.ensures.items ∙ c.deref-in-Channels-3.ensures.value) c.deref-in-Channels.ensures.value
    c.in_ok-inner-in-Channels.ensures.scope (ap values c.in_ok-inner-in-Channels.ensures.state)
    (c.in_ok-body-in-Channels.ensures ∙ ap (λ x. settled (names_at c.in_ok-inner-in-Channels.inner) (values_at c.in_ok-inner-in-Channels.inner) (applied (control x) E)) c.deref-in-Channels-2.ensures) c.in_channels.ensures
