-- The spans of events have exactly these events.
use Rattle.std.proofs.Common.{◌≡◌, ◌+◌, ◌≤◌, ◌==◌, ◌&&◌, ◌||◌, ℕ, Bool, true, false, cond, List, [], ◌∷◌, inl, inr, refl, ap, ◌∙◌, arith}
use Rattle.std.proofs.lemmas.Bool.{and_parts, and_from, or_left, or_right, or_cases, eqb-true, eq-eqb, leb-true, le-leb, cases_eq}
use Rattle.std.specs.Prelude.{nat_le, ◌⊎◌}
use Rattle.std.specs.List.{list_any, AllByRecursion}
use Rattle.occ_syntax.specs.occ_base.declared.event.Event.{Event}
use Rattle.occ_syntax.specs.Scopes.{same_event}
use Rattle.occ_draw.specs.Spans.{Span, is_in, joined, precedes, same_end, spans_of}
use Rattle.occ_draw.proofs.Ends.{one_end, same_bools, same_with}

-- ---- ranges of values
one_value : (a v : ℕ) → (nat_le a v && nat_le v a) ≡ (v == a)
one_value a v = same_bools (nat_le a v && nat_le v a) (v == a)
    (λ h. let p = and_parts (nat_le a v) (nat_le v a) h in let x = leb-true a v p.0 in let y = leb-true v a p.1 in eq-eqb v a (omega (arith, x, y)))
    (λ h. let e = eqb-true v a h in and_from (nat_le a v) (nat_le v a) (le-leb a v (omega (arith, e))) (le-leb v a (omega (arith, e))))

more_values : (a v last : ℕ) → a + 1 ≤ last → (nat_le a v && nat_le v last) ≡ ((v == a) || (nat_le (a + 1) v && nat_le v last))
more_values a v last some = same_bools (nat_le a v && nat_le v last) ((v == a) || (nat_le (a + 1) v && nat_le v last))
    (λ h. let p = and_parts (nat_le a v) (nat_le v last) h in there (leb-true a v p.0) p.1 (cases_eq v a))
    (λ h. back (or_cases (v == a) (nat_le (a + 1) v && nat_le v last) h))
  where
    there : a ≤ v → nat_le v last ≡ true → (v ≡ a) ⊎ (v ≡ a → ⊥) → ((v == a) || (nat_le (a + 1) v && nat_le v last)) ≡ true
    there least most (inl e) = or_left (v == a) _ (eq-eqb v a e)
    there least most (inr other) = or_right (v == a) _ (and_from (nat_le (a + 1) v) (nat_le v last) (le-leb (a + 1) v (omega (arith, least, other))) most)

    back : ((v == a) ≡ true) ⊎ ((nat_le (a + 1) v && nat_le v last) ≡ true) → (nat_le a v && nat_le v last) ≡ true
    back (inl e) = let is = eqb-true v a e in and_from (nat_le a v) (nat_le v last) (le-leb a v (omega (arith, is))) (le-leb v last (omega (arith, is, some)))
    back (inr h) = let p = and_parts (nat_le (a + 1) v) (nat_le v last) h in let x = leb-true (a + 1) v p.0 in and_from (nat_le a v) (nat_le v last) (le-leb a v (omega (arith, x))) p.1

-- ---- one span
and_or : (a b d : Bool) → (a && (b || d)) ≡ ((a && b) || (a && d))
and_or true b d = refl
and_or false b d = refl

or_assoc : (a b d : Bool) → ((a || b) || d) ≡ (a || (b || d))
or_assoc true b d = refl
or_assoc false b d = refl

one_event : (e x : Event) → is_in e (x, x.value) ≡ same_event e x
one_event e x = ap (λ b. same_end e x && b) (one_value x.value e.value)

-- a span with one more event in front
longer : (e x : Event) (s : Span) → precedes x s.0 ≡ true → s.0.value ≤ s.1 → is_in e (x, s.1) ≡ (same_event e x || is_in e s)
longer e x s h wide =
    let p = and_parts (same_end x s.0) (x.value + 1 == s.0.value) h in
    let next : x.value + 1 ≡ s.0.value = eqb-true (x.value + 1) s.0.value p.1 in
    let beyond : x.value + 1 ≤ s.1 = omega (arith, next, wide) in
    ap (λ b. same_end e x && b) (more_values x.value e.value s.1 beyond)
    ∙ ap (λ n. same_end e x && ((e.value == x.value) || (nat_le n e.value && nat_le e.value s.1))) next
    ∙ and_or (same_end e x) (e.value == x.value) (nat_le s.0.value e.value && nat_le e.value s.1)
    ∙ ap (λ b. same_event e x || (b && (nat_le s.0.value e.value && nat_le e.value s.1))) (same_with e x s.0 (one_end x s.0 p.0))

-- ---- all spans

-- no span ends before it begins
abbrev AreWide : List Span → Type 0
AreWide spans = AllByRecursion (λ (s : Span). s.0.value ≤ s.1) spans

joined_wide : (x : Event) (spans : List Span) → AreWide spans → AreWide (joined x spans)
joined_wide x [] w = (omega arith, tt)
joined_wide x (s ∷ spans) w = by (precedes x s.0) refl
  where
    by : (b : Bool) → precedes x s.0 ≡ b → AreWide (cond b ((x, s.1) ∷ spans) ((x, x.value) ∷ s ∷ spans))
    by true h = let next = eqb-true (x.value + 1) s.0.value (and_parts (same_end x s.0) (x.value + 1 == s.0.value) h).1 in (omega (arith, next, w.0), w.1)
    by false h = (omega arith, w)

joined_in : (e x : Event) (spans : List Span) → AreWide spans → list_any (is_in e) (joined x spans) ≡ (same_event e x || list_any (is_in e) spans)
joined_in e x [] w = ap (λ b. b || false) (one_event e x)
joined_in e x (s ∷ spans) w = by (precedes x s.0) refl
  where
    by : (b : Bool) → precedes x s.0 ≡ b → list_any (is_in e) (cond b ((x, s.1) ∷ spans) ((x, x.value) ∷ s ∷ spans)) ≡ (same_event e x || list_any (is_in e) (s ∷ spans))
    by true h = ap (λ b. b || list_any (is_in e) spans) (longer e x s h w.0) ∙ or_assoc (same_event e x) (is_in e s) (list_any (is_in e) spans)
    by false h = ap (λ b. b || list_any (is_in e) (s ∷ spans)) (one_event e x)

all_wide : (events : List Event) → AreWide (spans_of events)
unfolding spans_of
all_wide [] = tt
all_wide (x ∷ events) = joined_wide x (spans_of events) (all_wide events)

pub spanned : (e : Event) (events : List Event) → list_any (is_in e) (spans_of events) ≡ list_any (same_event e) events
unfolding spans_of
spanned e [] = refl
spanned e (x ∷ events) = joined_in e x (spans_of events) (all_wide events) ∙ ap (λ b. same_event e x || b) (spanned e events)
