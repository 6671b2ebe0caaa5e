use Rattle.std.proofs.Common.{◌<◌, ◌∷◌, ◌++◌, length, map, refl, sym, ap, ◌∙◌, arith}
use Rattle.std.proofs.lemmas.Bool.{and_parts}
use Rattle.occ_syntax.specs.occ_base.Event.{counterpart}
use Rattle.occ_syntax.specs.Scopes.{environment, values}
use Rattle.occ_syntax.specs.View.{trees}
use Rattle.occ_run_steps.specs.Kept.{all_types_held, types_held}
use Rattle.occ_run.specs.declared.found.Found.TheVariants.{Step as Here}
use Rattle.occ_run.specs.Effects.{alone_of, pairs_of}
use Rattle.occ_run.specs.Founds.{asked, each_effects, effects}
use Rattle.occ_run.specs.Places.{names_at, values_at}
use Rattle.occ_run.specs.View.{control, controls}
use Rattle.occ_run.proofs.Bodies.{on_ok}
use Rattle.occ_run.proofs.Channels.{held_row}
use Rattle.occ_run.proofs.Founds.{after_found, at_same, both_behind, both_here, channels_found, local_at, none_left, part_behind, part_here}
use Rattle.occ_run.proofs.Fronts.{front_is, none_is}
use Rattle.occ_run.proofs.Joining.{event_here, first_more, not_past, pair_stands, part_is, part_there, same_more, same_step, second_more}
use Rattle.occ_run.proofs.Pairing.{all_past, pair_is}
use Rattle.occ_run.specs.MeetingRuns.{runs_of_each, spelled}
use Rattle.occ_run.proofs.Unseen.{among_length, pairs_asked, pairs_missed}
use Rattle.occ_run.proofs.Rows.{control-Both}
use Rattle.occ_run.proofs.Sizes.{sizes}
use Rattle.occ_run.proofs.Walks.{body_held, parts_held}
use Rattle.occ_run.proofs.number.+found.Goals as goal

pub found-alone_found-requires : goal.found-alone_found-requires
found-alone_found-requires t c =
    let held = parts_held (names_at c.args.place.now) (control c.args.control.now) c.in-Both.parts c.deref-in-Both.result.now (ap control c.in-Both.is) c.deref-in-Both.ensures.value c.requires in
    let less = held.0 in
    (omega (arith, less, c.decreases), held.1)

pub found-pair_asked-requires : goal.found-pair_asked-requires
found-pair_asked-requires t c =
    let held = parts_held (names_at c.args.place.now) (control c.args.control.now) c.in-Both.parts c.deref-in-Past.result.now (ap control c.in-Both.is) c.deref-in-Past.ensures.value c.requires in
    let less = held.0 in
    (omega (arith, less, c.decreases), held.1)

pub found-within-requires : goal.found-within-requires
found-within-requires t c =
    (held_row (names_at c.args.place.now) c.in-Channels.first c.in-Channels.more.items c.deref-in-Channels.result.now (control c.args.control.now) (control c.in-Channels.body.value)
    (ap control c.in-Channels.is) c.deref-in-Channels.ensures.value c.requires).0

pub found-returns-in-After : goal.found-returns-in-After
found-returns-in-After t c =
    after_found (names_at c.args.place.now) (values_at c.args.place.now) (control c.args.control.now) c.found.result c.args.wanted.hidden.now c.args.wanted.only c.args.wanted.number
    (control c.in-After.body.value) (control c.deref.result.now) (trees c.in-After.field-1.now) (ap control c.in-After.is) (ap control c.deref.ensures) c.found.ensures

pub found-found-requires-in-Channels : goal.found-found-requires-in-Channels
found-found-requires-in-Channels t c =
    let inner = c.in_ok-inner-in-Channels in
    let held = body_held (names_at c.args.place.now) (names_at inner.inner) c.in-Channels.first c.in-Channels.more.items c.deref-in-Channels.result.now (control c.args.control.now)
    (control c.in-Channels.body.value) (control c.deref-in-Channels-3.result.now) (ap control c.in-Channels.is) c.deref-in-Channels.ensures.value (ap control c.deref-in-Channels-3.ensures) inner.ensures.scope c.requires in
    let less = held.0 in
    (omega (arith, less, c.decreases), held.1)

pub found-returns-in-Step : goal.found-returns-in-Step
found-returns-in-Step t c =
    both_here (names_at c.args.place.now) (values_at c.args.place.now) (control c.args.control.now) c.args.wanted.hidden.now c.args.wanted.only c.args.wanted.number
    (controls c.in-Both.parts.items) (controls c.deref-in-Both.result.now) c.in_ok-offer-in-Both.field-0 c.in-Step.offer
    (ap control c.in-Both.is ∙ control-Both c.in-Both.parts) (ap controls c.deref-in-Both.ensures.value) c.in-Step.is c.in_ok-offer-in-Both.ensures

pub found-returns-in-Past : goal.found-returns-in-Past
found-returns-in-Past t c =
    both_behind (names_at c.args.place.now) (values_at c.args.place.now) (control c.args.control.now) c.args.wanted.hidden.now c.args.wanted.only c.args.wanted.number c.in-Past.number
    (controls c.in-Both.parts.items) (controls c.deref-in-Both.result.now) (controls c.deref-in-Past.result.now) c.in_ok-offer-in-Both.field-0 c.pair_asked.result
    (ap control c.in-Both.is ∙ control-Both c.in-Both.parts) (ap controls c.deref-in-Both.ensures.value) (ap controls c.deref-in-Past.ensures.value) c.in-Past.is
    c.in_ok-offer-in-Both.ensures c.pair_asked.ensures

pub found-returns-in_ok-inside-in-Local : goal.found-returns-in_ok-inside-in-Local
found-returns-in_ok-inside-in-Local t c =
    let inner = c.in_ok-inner-in-Local.inner in
    let D = control c.deref-in-Local.result.now in
    let hidden = c.args.wanted.hidden.now in
    let only = c.args.wanted.only in
    on_ok c.found_outside.result (λ found h.
    local_at (names_at c.args.place.now) (values_at c.args.place.now) (control c.args.control.now) hidden only c.args.wanted.number (names_at inner) (values_at inner)
    c.in-Local.name.0 c.in-Local.width c.in-Local.value (control c.in-Local.body.value) D found
    (ap control c.in-Local.is) (ap environment c.in_ok-inner-in-Local.ensures.scope) (ap values c.in_ok-inner-in-Local.ensures.state) (ap control c.deref-in-Local.ensures)
    (h (asked hidden only (effects (names_at inner) (values_at inner) D)) c.args.wanted.number c.in_ok-inside-in-Local.ensures)) c.found_outside.ensures

pub found-returns-in_ok-hidden-in-Channels : goal.found-returns-in_ok-hidden-in-Channels
found-returns-in_ok-hidden-in-Channels t c =
    let inner = c.in_ok-inner-in-Channels.inner in
    let first = c.in-Channels.first in
    channels_found (names_at c.args.place.now) (values_at c.args.place.now) (control c.args.control.now) c.found-in-Channels.result c.args.wanted.hidden.now c.args.wanted.only c.args.wanted.number
    (names_at inner) (values_at inner) (first ∷ c.in-Channels.more.items) (first ∷ c.deref-in-Channels.result.now) c.as_slice-hidden.result.now
    (control c.in-Channels.body.value) (control c.deref-in-Channels-3.result.now) (ap control c.in-Channels.is) (ap (λ cs. first ∷ cs) c.deref-in-Channels.ensures.value)
    (c.as_slice-hidden.ensures.value ∙ c.in_ok-hidden-in-Channels.ensures
    ∙ ap (λ cs. c.args.wanted.hidden.now ++ first ∷ cs) (c.deref-in-Channels-2.ensures.value ∙ sym c.deref-in-Channels.ensures.value))
    c.in_ok-inner-in-Channels.ensures.scope (ap values c.in_ok-inner-in-Channels.ensures.state) (ap control c.deref-in-Channels-3.ensures) c.found-in-Channels.ensures

pub alone_found-returns-in-Step : goal.alone_found-returns-in-Step
alone_found-returns-in-Step t c =
    let some : 0 < length c.loop-rest.rest.now = omega (arith, c.in-len1-up.len_at_least) in
    c.loop-rest.invariant.whole (Here c.in_ok-alone-in-Step.field-0)
    (part_here (names_at c.args.place.now) (values_at c.args.place.now) c.args.wanted.hidden.now c.args.wanted.only c.loop-rest.index c.loop-rest.number c.loop-rest.rest.now c.part-item.result some c.part-item.is
    (control c.deref.result.now) (ap control c.deref.ensures) c.in_ok-offer.field-0 c.in-Step.offer c.in_ok-alone-in-Step.field-0 c.in-Step.is c.in_ok-alone-in-Step.ensures c.in_ok-offer.ensures)

pub alone_found-loop-rest-preserved : goal.alone_found-loop-rest-preserved
alone_found-loop-rest-preserved t c =
    let some : 0 < length c.loop-rest.rest.now = omega (arith, c.in-len1-up.len_at_least) in
    let front = front_is c.loop-rest.rest.now c.part-item.result some c.part-item.is in
    let w = ap (λ ps. sizes (controls ps)) front in
    let count = ap length front in
    let Γ = names_at c.args.place.now in
    record {
      whole = λ r h. c.loop-rest.invariant.whole r
          (part_behind Γ (values_at c.args.place.now) c.args.wanted.hidden.now c.args.wanted.only c.loop-rest.index c.loop-rest.number c.loop-rest.rest.now c.part-item.result some c.part-item.is
          (control c.deref.result.now) (ap control c.deref.ensures) c.in_ok-offer.field-0 c.in-Past.more c.in-Past.is c.in_ok-offer.ensures r h);
      kept = (and_parts (types_held (control c.part-item.result.value) Γ) _ (sym (ap (λ ps. all_types_held (controls ps) Γ) front) ∙ c.loop-rest.invariant.kept)).1;
      less = omega (arith, w, c.loop-rest.invariant.less);
      counted = omega (arith, count, c.loop-rest.invariant.counted);
    }

pub alone_found-returns : goal.alone_found-returns
alone_found-returns t c =
    let Γ = names_at c.args.place.now in
    let s = values_at c.args.place.now in
    let hidden = c.args.wanted.hidden.now in
    let only = c.args.wanted.only in
    none_left (asked hidden only (alone_of 0 (each_effects Γ s (controls c.args.parts.now)))) (asked hidden only (alone_of c.loop-rest.index (each_effects Γ s (controls c.loop-rest.rest.now))))
    c.loop-rest.number c.args.wanted.number
    (ap (λ ps. asked hidden only (alone_of c.loop-rest.index (each_effects Γ s (controls ps)))) (none_is c.loop-rest.rest.now c.in_default.len_below)) c.loop-rest.invariant.whole

pub pair_asked-returns-then-not-asks : goal.pair_asked-returns-then-not-asks
pair_asked-returns-then-not-asks t c =
    pairs_missed c.args.wanted.hidden.now c.args.wanted.only 0 c.args.wanted.number (each_effects (names_at c.args.place.now) (values_at c.args.place.now) (controls c.args.parts.now))
    (sym c.asks.ensures ∙ c.if-not-asks.true)

pub pair_asked-returns : goal.pair_asked-returns
pair_asked-returns t c =
    let kss = each_effects (names_at c.args.place.now) (values_at c.args.place.now) (controls c.args.parts.now) in
    let all = pairs_asked c.args.wanted.hidden.now c.args.wanted.only 0 kss (sym c.asks.ensures ∙ c.if-not-asks.false) in
    on_ok c.pair_found.result (λ found h. at_same (pairs_of 0 kss) (asked c.args.wanted.hidden.now c.args.wanted.only (pairs_of 0 kss)) c.args.wanted.number found all h) c.pair_found.ensures

pub part_found-unreachable-requires : goal.part_found-unreachable-requires
part_found-unreachable-requires t c =
    let ks = effects (names_at c.args.place.now) (values_at c.args.place.now) (control c.args.control.now) in
    not_past c.as_slice.result.now c.args.event ks c.args.number c.in-Past.field-0 c.in_ok-offer.field-0 (c.as_slice.ensures.value ∙ c.new-hidden.ensures.items) c.requires.more c.in-Past.is
    c.in_ok-offer.ensures

pub part_found-returns : goal.part_found-returns
part_found-returns t c =
    let ks = effects (names_at c.args.place.now) (values_at c.args.place.now) (control c.args.control.now) in
    event_here c.as_slice.result.now c.args.event ks c.args.number c.in_ok-offer.field-0 c.in-Step.offer (c.as_slice.ensures.value ∙ c.new-hidden.ensures.items) c.in-Step.is c.in_ok-offer.ensures

pub pair_found-returns-in-Past : goal.pair_found-returns-in-Past
pair_found-returns-in-Past t c =
    let kss = each_effects (names_at c.args.place.now) (values_at c.args.place.now) (controls c.args.parts.now) in
    let same = ap (λ es. map spelled (runs_of_each es)) c.deref.ensures.value ∙ c.in_ok-each.ensures in
    let count = among_length 0 kss (runs_of_each c.deref.result.now) (sym same) in
    let past = all_past (runs_of_each c.deref.result.now) c.args.number c.in-Past.more c.in_ok-more.field-0 c.in-Past.is c.in_ok-more.ensures in
    omega (arith, count, past)

pub pair_found-bounds-parts-met : goal.pair_found-bounds-parts-met
pair_found-bounds-parts-met t c =
    let Γ = names_at c.args.place.now in
    let s = values_at c.args.place.now in
    let it = pair_is (each_effects Γ s (controls c.args.parts.now)) (runs_of_each c.in_ok-each.each.items) (runs_of_each c.deref.result.now) c.args.number c.in_ok-more.field-0 c.in-At.met
    (ap runs_of_each c.deref.ensures.value) c.in_ok-each.ensures c.in-At.is c.in_ok-more.ensures in
    part_there Γ s c.args.parts.now c.in-At.met.first it.ones it.one_stands

pub pair_found-bounds-parts-met-in-At : goal.pair_found-bounds-parts-met-in-At
pair_found-bounds-parts-met-in-At t c =
    let Γ = names_at c.args.place.now in
    let s = values_at c.args.place.now in
    let it = pair_is (each_effects Γ s (controls c.args.parts.now)) (runs_of_each c.in_ok-each.each.items) (runs_of_each c.deref.result.now) c.args.number c.in_ok-more.field-0 c.in-At.met
    (ap runs_of_each c.deref.ensures.value) c.in_ok-each.ensures c.in-At.is c.in_ok-more.ensures in
    part_there Γ s c.args.parts.now c.in-At.met.second it.others it.other_stands

pub pair_found-part_found-requires : goal.pair_found-part_found-requires
pair_found-part_found-requires t c =
    let Γ = names_at c.args.place.now in
    let s = values_at c.args.place.now in
    let it = pair_is (each_effects Γ s (controls c.args.parts.now)) (runs_of_each c.in_ok-each.each.items) (runs_of_each c.deref.result.now) c.args.number c.in_ok-more.field-0 c.in-At.met
    (ap runs_of_each c.deref.ensures.value) c.in_ok-each.ensures c.in-At.is c.in_ok-more.ensures in
    let one = part_is Γ s c.args.parts.now c.in-At.met.first it.ones c.index-parts-met.result (control c.deref-in-At.result.now) c.requires it.one_stands c.index-parts-met.is (ap control c.deref-in-At.ensures) in
    let less = one.less in (
      omega (arith, less, c.decreases),
      (one.typed, same_more (effects Γ s (control c.deref-in-At.result.now)) it.ones c.in-At.met.event c.in-At.met.before one.same (first_more it.ones it.others it.inner c.in-At.met.event c.in-At.met.before c.in-At.met.answer it.is_met)),
    )

pub pair_found-part_found-requires-in-At : goal.pair_found-part_found-requires-in-At
pair_found-part_found-requires-in-At t c =
    let Γ = names_at c.args.place.now in
    let s = values_at c.args.place.now in
    let it = pair_is (each_effects Γ s (controls c.args.parts.now)) (runs_of_each c.in_ok-each.each.items) (runs_of_each c.deref.result.now) c.args.number c.in_ok-more.field-0 c.in-At.met
    (ap runs_of_each c.deref.ensures.value) c.in_ok-each.ensures c.in-At.is c.in_ok-more.ensures in
    let other = part_is Γ s c.args.parts.now c.in-At.met.second it.others c.index-parts-met-in-At.result (control c.deref-in-At-2.result.now) c.requires it.other_stands c.index-parts-met-in-At.is
    (ap control c.deref-in-At-2.ensures) in
    let less = other.less in (
      omega (arith, less, c.decreases),
      (
        other.typed,
        same_more (effects Γ s (control c.deref-in-At-2.result.now)) it.others c.counterpart-answer.result c.in-At.met.answer other.same
            (second_more it.ones it.others it.inner c.in-At.met.event c.counterpart-answer.result c.in-At.met.before c.in-At.met.answer c.counterpart-answer.ensures it.is_met),
      ),
    )

pub pair_found-returns : goal.pair_found-returns
pair_found-returns t c =
    let Γ = names_at c.args.place.now in
    let s = values_at c.args.place.now in
    let it = pair_is (each_effects Γ s (controls c.args.parts.now)) (runs_of_each c.in_ok-each.each.items) (runs_of_each c.deref.result.now) c.args.number c.in_ok-more.field-0 c.in-At.met
    (ap runs_of_each c.deref.ensures.value) c.in_ok-each.ensures c.in-At.is c.in_ok-more.ensures in
    let one = part_is Γ s c.args.parts.now c.in-At.met.first it.ones c.index-parts-met.result (control c.deref-in-At.result.now) c.requires it.one_stands c.index-parts-met.is (ap control c.deref-in-At.ensures) in
    let other = part_is Γ s c.args.parts.now c.in-At.met.second it.others c.index-parts-met-in-At.result (control c.deref-in-At-2.result.now) c.requires it.other_stands c.index-parts-met-in-At.is
    (ap control c.deref-in-At-2.ensures) in
    pair_stands (each_effects Γ s (controls c.args.parts.now)) c.args.number c.in-At.met it c.in_ok-first-in-At.first c.in_ok-second-in-At.second c.in_ok-together-in-At.field-0
    (same_step (effects Γ s (control c.deref-in-At.result.now)) it.ones c.in-At.met.event c.in-At.met.event c.in-At.met.before c.in_ok-first-in-At.first one.same refl c.in_ok-first-in-At.ensures)
    (same_step (effects Γ s (control c.deref-in-At-2.result.now)) it.others c.counterpart-answer.result (counterpart c.in-At.met.event) c.in-At.met.answer c.in_ok-second-in-At.second other.same c.counterpart-answer.ensures
    c.in_ok-second-in-At.ensures) c.in_ok-together-in-At.ensures
