-- Steps that meet, by their events.
use Rattle.std.proofs.Common.{◌≡◌, ◌+◌, ◌++◌, ℕ, Bool, true, false, Some, Option, List, [], ◌∷◌, map, length, if◌then◌else◌, refl, ap, sym, ◌∙◌, slice_get, suc, arith}
use Rattle.std.proofs.lemmas.List.{length-append, length-map}
use Rattle.std.specs.List.{filter}
use mathlib.Core.Path.{fun_ext}
use Rattle.occ_syntax.specs.occ_base.Event.{counterpart}
use Rattle.occ_syntax.specs.occ_base.declared.event.Event.{Event}
use Rattle.occ_run_steps.proofs.from_meaning.Facts.{event_itself}
use Rattle.occ_run_steps.specs.Step.{Step, answers, is_event, joint, meet, meetings, same}
use Rattle.occ_run.specs.MeetingRuns.{events, met}
use Rattle.occ_run.proofs.MeetingPairs.{answers_same, bit, counted_next}
use Rattle.occ_run.proofs.Founds.{get_behind, get_front}
use Rattle.occ_run.proofs.Lists.{filter_map, get_map}

pub filter_events : {A : Type 0} (p : Option Event → Bool) (ks : List (Step A)) → length (filter (λ (k : Step A). p k.event) ks) ≡ length (filter p (events ks))
filter_events {A} p ks =
    sym (ap length (filter_map (λ (k : Step A). k.event) p (λ (k : Step A). p k.event) (λ k. refl) ks) ∙ length-map (filter (λ (k : Step A). p k.event) ks) (λ (k : Step A). k.event))

pub meetings_length : {A B : Type 0} (ks : List (Step A)) (ls : List (Step B)) → length (meetings ks ls) ≡ length (met (events ks) (events ls))
meetings_length [] ls = refl
meetings_length (k ∷ ks) ls =
    length-append (map (joint k) (filter (meet k) ls)) (meetings ks ls)
    ∙ ap (λ (n : ℕ). n + length (meetings ks ls)) (length-map (filter (meet k) ls) (joint k) ∙ filter_events (answers k.event) ls)
    ∙ ap (λ (n : ℕ). length (filter (answers k.event) (events ls)) + n) (meetings_length ks ls)
    ∙ sym (length-append (filter (answers k.event) (events ls)) (met (events ks) (events ls)))

-- ---- the meeting of a number

skipped : {A : Type 0} (b : Bool) (x y : A) (xs : List A) (n m : ℕ) → bit b + n ≡ m → slice_get (if b then x ∷ xs else xs) m ≡ Some y → slice_get xs n ≡ Some y
skipped true x y xs n m e h = let f : suc n ≡ m = omega (arith, e) in ap (slice_get (x ∷ xs)) f ∙ h
skipped false x y xs n m e h = let f : n ≡ m = omega (arith, e) in ap (slice_get xs) f ∙ h

meets_it : {A B : Type 0} (k : Step A) (e : Event) (ls : List (Step B)) → k.event ≡ Some e → filter (meet k) ls ≡ filter (is_event (counterpart e)) ls
meets_it {A} {B} k e ls h =
    let same_test : (λ (l : Step B). answers k.event l.event) ≡ (λ (l : Step B). same (counterpart e) l.event) = fun_ext (λ l. ap (λ o. answers o l.event) h ∙ answers_same e l.event) in
    ap (λ (p : Step B → Bool). filter p ls) same_test

pub met_is : {A B : Type 0} (ks : List (Step A)) (ls : List (Step B)) (front back : List (Option Event)) (e : Event) (m x y : ℕ) (k : Step A) (l : Step B)
    → events ks ≡ front ++ Some e ∷ back → length (met front (events ls)) + y ≡ m → length (filter (same e) front) ≡ x
    → slice_get (filter (is_event e) ks) x ≡ Some k → slice_get (filter (is_event (counterpart e)) ls) y ≡ Some l
    → slice_get (meetings ks ls) m ≡ Some (joint k l)
met_is [] ls [] back e m x y k l s p t a b = cc
met_is [] ls (f ∷ front) back e m x y k l s p t a b = cc
met_is (i ∷ ks) ls [] back e m x y k l s p t a b =
    let h : i.event ≡ Some e = cc in
    let here : y ≡ m = omega (arith, p) in
    let none : 0 ≡ x = omega (arith, t) in
    let it : same e i.event ≡ true = ap (same e) h ∙ event_itself e in
    let a' : slice_get (i ∷ filter (is_event e) ks) 0 ≡ Some k =
    ap (λ (c : Bool). slice_get (if c then i ∷ filter (is_event e) ks else filter (is_event e) ks) 0) (sym it) ∙ ap (λ (n : ℕ). slice_get (filter (is_event e) (i ∷ ks)) n) none ∙ a in
    let same_step : i ≡ k = cc in
    let b' : slice_get (filter (meet i) ls) y ≡ Some l = ap (λ js. slice_get js y) (meets_it i e ls h) ∙ b in
    sym (ap (slice_get (meetings (i ∷ ks) ls)) here)
    ∙ get_front (map (joint i) (filter (meet i) ls)) (meetings ks ls) y (joint i l) (get_map (joint i) (filter (meet i) ls) y l b')
    ∙ ap (λ z. Some (joint z l)) same_step
met_is (i ∷ ks) ls (f ∷ front) back e m x y k l s p t a b =
    let h : i.event ≡ f = cc in
    let s' : events ks ≡ front ++ Some e ∷ back = cc in
    let first = length-map (filter (meet i) ls) (joint i) ∙ filter_events (answers i.event) ls ∙ ap (λ o. length (filter (answers o) (events ls))) h in
    let parts = length-append (filter (answers f) (events ls)) (met front (events ls)) in
    let n = length (met front (events ls)) + y in
    let count : length (map (joint i) (filter (meet i) ls)) + n ≡ m = omega (arith, p, first, parts) in
    let before = sym (counted_next (same e) f front) ∙ t in
    let before' : bit (same e i.event) + length (filter (same e) front) ≡ x = ap (λ o. bit (same e o) + length (filter (same e) front)) h ∙ before in
    sym (ap (slice_get (meetings (i ∷ ks) ls)) count)
    ∙ get_behind (map (joint i) (filter (meet i) ls)) (meetings ks ls) n
    ∙ met_is ks ls front back e n (length (filter (same e) front)) y k l s' refl refl (skipped (same e i.event) i k (filter (is_event e) ks) (length (filter (same e) front)) x before' a) b
