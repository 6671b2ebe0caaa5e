use Rattle.std.proofs.Common.{◌<◌, ◌≤◌, length, take, drop, arith, ap, ◌∙◌, ◌-◌, sym, subst}
use Rattle.occ_syntax.specs.View.{cases}
use Rattle.occ_syntax.proofs.Rows.{confirmed, refuted}
use Rattle.occ_law_shape.specs.occ_law.Lists.{all_cases}
use Rattle.occ_law_if.specs.Places.{here}
use Rattle.occ_law_if.proofs.Parted.{before_next, both_whole, choices_differ, from_place, none_left, nowhere, on_slices, same_next, to_end, turns, whole}
use Rattle.occ_law_if.proofs.places.somewhere.Goals as goal

pub holds-requires : goal.holds-requires
holds-requires g c =
    let k = c.loop-k.k in
    let first = sym (ap (λ z. all_cases (cases (take k c.args.choices.now)) (cases z)) (to_end c.args.choices.now k) ∙ whole c.args.choices.now k) in
    let second = sym (ap (λ z. all_cases (cases (take k c.args.choices.now)) (cases z)) (to_end c.args.others.now k) ∙ both_whole c.args.choices.now c.args.others.now k c.loop-k.invariant.same) in
    subst (λ z. g.P.ChoicePlace.is_ready c.args.place.now z (all_cases (cases (take k c.args.choices.now)) (cases (take (length c.args.others.now - k) (drop k c.args.others.now))))) first
    (subst (λ z. g.P.ChoicePlace.is_ready c.args.place.now (cases c.args.choices.now) z) second c.requires)

pub returns-then-is_here : goal.returns-then-is_here
returns-then-is_here g c =
    let test = on_slices (g.P.ChoicePlace.joins c.args.place.now) (cases (take c.loop-k.k c.args.choices.now)) c.args.choices.now c.args.others.now c.loop-k.k _ c.in_ok-is_here.ensures in
    confirmed (c.loop-k.invariant.not_yet.0 (here (test.0 c.if-is_here.true)))

pub returns-then-not-same_choice : goal.returns-then-not-same_choice
returns-then-not-same_choice g c =
    let other : c.loop-k.k < length c.args.others.now = omega arith in
    let test = on_slices (g.P.ChoicePlace.joins c.args.place.now) (cases (take c.loop-k.k c.args.choices.now)) c.args.choices.now c.args.others.now c.loop-k.k _ c.in_ok-is_here.ensures in
    refuted (λ r. choices_differ (g.P.ChoicePlace.joins c.args.place.now) (cases (take c.loop-k.k c.args.choices.now)) _ _ _ _ _ _ _ _
    (from_place c.args.choices.now c.loop-k.k c.index-choices-k.result c.loop-k-test.true c.index-choices-k.is)
    (from_place c.args.others.now c.loop-k.k c.index-others-k.result other c.index-others-k.is)
    (λ e. cc (c.same_choice.ensures.1 e)) (λ j. cc (test.1 j)) (c.loop-k.invariant.not_yet.1 r))

pub loop-k-preserved : goal.loop-k-preserved
loop-k-preserved g c =
    let other : c.loop-k.k < length c.args.others.now = omega arith in
    let equal = c.same_choice.ensures.0 c.if-not-same_choice.false in
    let test = on_slices (g.P.ChoicePlace.joins c.args.place.now) (cases (take c.loop-k.k c.args.choices.now)) c.args.choices.now c.args.others.now c.loop-k.k _ c.in_ok-is_here.ensures in
    record {
      within = omega arith;
      same = same_next c.args.choices.now c.args.others.now c.loop-k.k c.index-choices-k.result c.index-others-k.result c.loop-k-test.true other c.index-choices-k.is c.index-others-k.is
          equal.0 equal.1 c.loop-k.invariant.same;
      not_yet = turns (g.P.ChoicePlace.joins c.args.place.now) (cases (take c.loop-k.k c.args.choices.now)) _ _ _ _ _ _ _ _ _
          (from_place c.args.choices.now c.loop-k.k c.index-choices-k.result c.loop-k-test.true c.index-choices-k.is)
          (from_place c.args.others.now c.loop-k.k c.index-others-k.result other c.index-others-k.is) equal.0 equal.1
          (before_next c.args.choices.now c.loop-k.k c.index-choices-k.result c.loop-k-test.true c.index-choices-k.is) (λ j. cc (test.1 j)) c.loop-k.invariant.not_yet;
    }

pub returns : goal.returns
returns g c =
    let end : length c.args.choices.now ≤ c.loop-k.k = omega arith in
    refuted (λ r. nowhere (g.P.ChoicePlace.joins c.args.place.now) (g.met.P.ChoicePlace.starts c.args.place.now) (cases (take c.loop-k.k c.args.choices.now)) _ _
    (none_left c.args.choices.now c.loop-k.k end) (c.loop-k.invariant.not_yet.1 r))
