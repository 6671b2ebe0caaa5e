use Rattle.std.proofs.Common.{◌≡◌, ◌<◌, IfOk, length, sym, ap, subst, ◌∙◌, arith}
use Rattle.std.proofs.lemmas.Bool.{and_parts}
use Rattle.occ_syntax.specs.Scopes.{values}
use Rattle.occ_run_steps.specs.Control.{Control as Left}
use Rattle.occ_run_steps.specs.Kept.{all_types_held, types_held}
use Rattle.occ_run_steps.specs.Settled.{all_settled, settled, side_by_side}
use Rattle.occ_run.specs.Places.{names_at, values_at}
use Rattle.occ_run.specs.View.{control, controls}
use Rattle.occ_run.proofs.Beginning.{settled_row}
use Rattle.occ_run.proofs.Channels.{held_row}
use Rattle.occ_run.proofs.Fronts.{front_is, none_is}
use Rattle.occ_run.proofs.Rows.{all_made, one_made}
use Rattle.occ_run.proofs.Sizes.{sizes}
use Rattle.occ_run.proofs.Walks.{body_held, parts_are, parts_held}
use Rattle.occ_run.proofs.settle.+settled.Goals as goal

pub all_settled-loop-rest-preserved : goal.all_settled-loop-rest-preserved
all_settled-loop-rest-preserved t c =
    let some : 0 < length c.loop-rest.rest.now = omega (arith, c.in-len1-up.len_at_least) in
    let front = front_is c.loop-rest.rest.now c.part-item.result some c.part-item.is in
    let w = ap (λ ps. sizes (controls ps)) front in
    let Γ = names_at c.args.place.now in
    record {
      whole = one_made c.loop-rest.all.items c.push.new.self.items c.in_ok-new.field-0 _ _ _ _ c.in_ok-push.ensures.items
          (ap control c.in_ok-new.ensures.ok ∙ c.in_ok-settled.ensures ∙ ap (λ x. settled Γ (values_at c.args.place.now) (control x)) c.deref.ensures)
          (ap (λ ps. all_settled Γ (values_at c.args.place.now) (controls ps)) front) c.loop-rest.invariant.whole;
      kept = (and_parts (types_held (control c.part-item.result.value) Γ) _ (sym (ap (λ ps. all_types_held (controls ps) Γ) front) ∙ c.loop-rest.invariant.kept)).1;
      less = omega (arith, w, c.loop-rest.invariant.less);
    }

pub all_settled-returns : goal.all_settled-returns
all_settled-returns t c =
    c.side_by_side.ensures
    ∙ ap side_by_side (all_made c.loop-rest.all.items _ _ (ap (λ ps. all_settled (names_at c.args.place.now) (values_at c.args.place.now) (controls ps)) (none_is c.loop-rest.rest.now c.in_default.len_below)) c.loop-rest.invariant.whole)

pub settled-all_settled-requires : goal.settled-all_settled-requires
settled-all_settled-requires t c =
    let held = parts_held (names_at c.args.place.now) (control c.args.control.now) c.in-Both.parts c.deref-in-Both.result.now (ap control c.in-Both.is) c.deref-in-Both.ensures.value c.requires in
    let less = held.0 in
    (omega (arith, less, c.decreases), held.1)

pub settled-returns-in-Both : goal.settled-returns-in-Both
settled-returns-in-Both t c =
    let e = parts_are (control c.args.control.now) c.in-Both.parts c.deref-in-Both.result.now (ap control c.in-Both.is) c.deref-in-Both.ensures.value in
    subst (λ (C : Left). IfOk c.all_settled.result (λ next. control next ≡ settled (names_at c.args.place.now) (values_at c.args.place.now) C)) (sym e) c.all_settled.ensures

pub settled-within-requires : goal.settled-within-requires
settled-within-requires t c =
    (held_row (names_at c.args.place.now) c.in-Channels.first c.in-Channels.more.items c.deref-in-Channels.result.now (control c.args.control.now) (control c.in-Channels.body.value)
    (ap control c.in-Channels.is) c.deref-in-Channels.ensures.value c.requires).0

pub settled-settled-requires-in-Channels : goal.settled-settled-requires-in-Channels
settled-settled-requires-in-Channels t c =
    let inner = c.in_ok-inner-in-Channels in
    let held = body_held (names_at c.args.place.now) (names_at inner.inner) c.in-Channels.first c.in-Channels.more.items c.deref-in-Channels.result.now (control c.args.control.now)
    (control c.in-Channels.body.value) (control c.deref-in-Channels-2.result.now) (ap control c.in-Channels.is) c.deref-in-Channels.ensures.value (ap control c.deref-in-Channels-2.ensures) inner.ensures.scope c.requires in
    let less = held.0 in
    (omega (arith, less, c.decreases), held.1)

pub settled-returns-in_ok-from_slice-in-Channels : goal.settled-returns-in_ok-from_slice-in-Channels
settled-returns-in_ok-from_slice-in-Channels t c =
    settled_row (names_at c.args.place.now) (values_at c.args.place.now) (names_at c.in_ok-inner-in-Channels.inner) (values_at c.in_ok-inner-in-Channels.inner)
    c.in-Channels.first c.in-Channels.more.items c.deref-in-Channels.result.now c.in_ok-from_slice-in-Channels.field-0.items (control c.args.control.now) (control c.in-Channels.body.value)
    c.in_ok-body-in-Channels.body c.in_channels.result (ap control c.in-Channels.is) (c.in_ok-from_slice-in-Channels.ensures.items ∙ c.deref-in-Channels-3.ensures.value) c.deref-in-Channels.ensures.value
    c.in_ok-inner-in-Channels.ensures.scope (ap values c.in_ok-inner-in-Channels.ensures.state)
    (c.in_ok-body-in-Channels.ensures ∙ ap (λ x. settled (names_at c.in_ok-inner-in-Channels.inner) (values_at c.in_ok-inner-in-Channels.inner) (control x)) c.deref-in-Channels-2.ensures) c.in_channels.ensures
