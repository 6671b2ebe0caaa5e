use Rattle.std.proofs.Common.{◌<◌, length, arith, sym, subst}
use Rattle.occ_syntax.specs.View.{trees}
use Rattle.occ_syntax.proofs.Rows.{confirmed, refuted}
use Rattle.occ_law_shape.specs.Places.{here}
use Rattle.occ_law_shape.proofs.Fronts.{trees_end, trees_front}
use Rattle.occ_law_shape.proofs.Parts.{ends_here, nowhere, parts_differ, turns}
use Rattle.occ_law_shape.proofs.places.somewhere.Goals as goal

pub returns-then-holds : goal.returns-then-holds
returns-then-holds g c =
    let some : 0 < length c.loop-rest.rest.now = omega arith in
    confirmed (c.loop-rest.invariant.0 (here (subst (λ z. g.P.Place.joins c.args.place.now z (trees c.loop-rest.other_rest.now))
    (sym (trees_front c.loop-rest.rest.now c.first-item.result some c.first-item.is)) (c.holds.ensures.0 c.if-holds.true))))

pub returns-in_default-other_rest : goal.returns-in_default-other_rest
returns-in_default-other_rest g c =
    let some : 0 < length c.loop-rest.rest.now = omega arith in
    let none : length c.loop-rest.other_rest.now < 1 = omega arith in
    refuted (λ r. ends_here (g.P.Place.joins c.args.place.now) _ _ _ _ (trees_front c.loop-rest.rest.now c.first-item.result some c.first-item.is) (trees_end c.loop-rest.other_rest.now none)
    (λ j. cc (c.holds.ensures.1
    (subst (λ z. g.P.Place.joins c.args.place.now z (trees c.loop-rest.other_rest.now)) (trees_front c.loop-rest.rest.now c.first-item.result some c.first-item.is) j))) (c.loop-rest.invariant.1 r))

pub returns-then-not-same_proc : goal.returns-then-not-same_proc
returns-then-not-same_proc g c =
    let some : 0 < length c.loop-rest.rest.now = omega arith in
    let other : 0 < length c.loop-rest.other_rest.now = omega arith in
    refuted (λ r. parts_differ (g.P.Place.joins c.args.place.now) _ _ _ _ _ _ (trees_front c.loop-rest.rest.now c.first-item.result some c.first-item.is)
    (trees_front c.loop-rest.other_rest.now c.other-item.result other c.other-item.is) (λ e. cc (c.same_proc.ensures.1 e)) (λ j. cc (c.holds.ensures.1
    (subst (λ z. g.P.Place.joins c.args.place.now z (trees c.loop-rest.other_rest.now)) (trees_front c.loop-rest.rest.now c.first-item.result some c.first-item.is) j))) (c.loop-rest.invariant.1 r))

pub loop-rest-preserved : goal.loop-rest-preserved
loop-rest-preserved g c =
    let some : 0 < length c.loop-rest.rest.now = omega arith in
    let other : 0 < length c.loop-rest.other_rest.now = omega arith in
    turns (g.P.Place.joins c.args.place.now) _ _ _ _ _ _ (trees_front c.loop-rest.rest.now c.first-item.result some c.first-item.is)
    (trees_front c.loop-rest.other_rest.now c.other-item.result other c.other-item.is) (c.same_proc.ensures.0 c.if-not-same_proc.false) (λ j. cc (c.holds.ensures.1
    (subst (λ z. g.P.Place.joins c.args.place.now z (trees c.loop-rest.other_rest.now)) (trees_front c.loop-rest.rest.now c.first-item.result some c.first-item.is) j))) c.loop-rest.invariant

pub returns : goal.returns
returns g c =
    let none : length c.loop-rest.rest.now < 1 = omega arith in
    refuted (λ r. nowhere (g.P.Place.joins c.args.place.now) (g.met.P.Place.starts c.args.place.now) _ _ (trees_end c.loop-rest.rest.now none) (c.loop-rest.invariant.1 r))
