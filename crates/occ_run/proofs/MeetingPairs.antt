-- How many pairs of steps meet, by what is seen of them, and by runs.
use Rattle.std.proofs.Common.{◌≡◌, ◌+◌, ◌<◌, ◌==◌, ◌&&◌, ◌++◌, ℕ, Bool, true, false, None, Some, Option, List, [], ◌∷◌, map, length, nat_le, nat_lt, ◌||◌, if◌then◌else◌, inl, inr, refl, ap, sym, ◌∙◌, zero, suc, arith}
use Rattle.std.proofs.lemmas.Bool.Decides.{eqb_tells, nat_tests}
use Rattle.std.proofs.lemmas.List.{append-nil, length-append}
use Rattle.std.proofs.lemmas.List.Elements.{filter-append}
use Rattle.std.proofs.lemmas.List.Folds.{flat_map-map}
use Rattle.std.specs.List.{filter, flat_map, list_any, range_with_len}
use mathlib.Core.Path.{fun_ext}
use Rattle.std.proofs.lemmas.Grind.{flat_map-append}
use Rattle.occ_syntax.specs.occ_base.Event.{counterpart}
use Rattle.occ_syntax.specs.occ_base.declared.names.Name.{Name}
use Rattle.occ_syntax.specs.occ_base.declared.event.Dir.TheVariants.{Input, Output}
use Rattle.occ_syntax.specs.occ_base.declared.event.Event.{Event}
use Rattle.occ_run_steps.proofs.from_meaning.Facts.{event_itself, same_events, same_turned as numbers_same}
use Rattle.occ_syntax.specs.Scopes.{same_dir, same_event}
use Rattle.occ_run_steps.specs.Step.{answers, same}
use Rattle.occ_run.specs.declared.run.Run.{Run}
use Rattle.occ_run.specs.declared.run.Run.TheVariants.{Unseen, Sends, Takes}
use Rattle.occ_run.specs.MeetingRuns.{has, met, run_meets, run_pairs, spell, spelled}

-- ---- tests

and_false : (a : Bool) → a && false ≡ false
and_false true = refl
and_false false = refl

and_turned : (a b c : Bool) → (a && b) && c ≡ b && (a && c)
and_turned true true c = refl
and_turned true false c = refl
and_turned false true c = refl
and_turned false false c = refl

-- events are the same whichever is first
turned : (e f : Event) (b c : Bool) → same_event e f ≡ b → same_event f e ≡ c → b ≡ c
turned e f true true h k = refl
turned e f false false h k = refl
turned e f true false h k = sym (event_itself f) ∙ ap (λ x. same_event f x) (sym (same_events e f h)) ∙ k
turned e f false true h k = sym h ∙ ap (λ x. same_event e x) (same_events f e k) ∙ event_itself e

pub same_turned : (e f : Event) → same_event e f ≡ same_event f e
same_turned e f = turned e f (same_event e f) (same_event f e) refl refl

-- what answers an event is its counterpart
pub answers_same : (e : Event) (f : Option Event) → answers (Some e) f ≡ same (counterpart e) f
answers_same e None = refl
answers_same e (Some f) = same_turned f (counterpart e)

-- ---- how many of the numbers below another pass a test that one number passes at most

abbrev pub bit : Bool → ℕ
bit b = if b then 1 else 0

none_from : (g : Bool) (u a : ℕ) → bit (g && (nat_le a u && nat_lt u (a + 0))) ≡ 0
none_from false u a = refl
none_from true u a = grind (arith, nat_tests)

next_from : (g : Bool) (u a n : ℕ) → bit (g && (u == a)) + bit (g && (nat_le (a + 1) u && nat_lt u (a + 1 + n))) ≡ bit (g && (nat_le a u && nat_lt u (a + suc n)))
next_from false u a n = refl
next_from true u a n = grind (arith, nat_tests)

from_start : (g : Bool) (u l : ℕ) → bit (g && (nat_le 0 u && nat_lt u (0 + (l + 1)))) ≡ bit (g && nat_le u l)
from_start false u l = refl
from_start true u l = grind (arith, nat_tests)

counted_from : {A : Type 0} (g : Bool) (u : ℕ) (h : ℕ → List A) → ((v : ℕ) → length (h v) ≡ bit (g && (u == v))) → (a n : ℕ)
    → length (flat_map h (range_with_len a n)) ≡ bit (g && (nat_le a u && nat_lt u (a + n)))
counted_from g u h t a zero = sym (none_from g u a)
counted_from g u h t a (suc n) =
    length-append (h a) (flat_map h (range_with_len (a + 1) n))
    ∙ ap (λ (m : ℕ). m + length (flat_map h (range_with_len (a + 1) n))) (t a)
    ∙ ap (λ (m : ℕ). bit (g && (u == a)) + m) (counted_from g u h t (a + 1) n)
    ∙ next_from g u a n

counted : {A : Type 0} (g : Bool) (u : ℕ) (h : ℕ → List A) → ((v : ℕ) → length (h v) ≡ bit (g && (u == v))) → (l : ℕ) → length (flat_map h (range_with_len 0 (l + 1))) ≡ bit (g && nat_le u l)
counted g u h t l = counted_from g u h t 0 (l + 1) ∙ from_start g u l

-- ---- how many of a list pass

chosen_length : {A : Type 0} (b : Bool) (x : A) (ys : List A) → length (if b then x ∷ ys else ys) ≡ bit b + length ys
chosen_length true x ys = omega arith
chosen_length false x ys = omega arith

pub counted_next : {A : Type 0} (p : A → Bool) (x : A) (xs : List A) → length (filter p (x ∷ xs)) ≡ bit (p x) + length (filter p xs)
counted_next p x xs = chosen_length (p x) x (filter p xs)

one_length : {A : Type 0} (p : A → Bool) (x : A) → length (filter p (x ∷ [])) ≡ bit (p x)
one_length p x = let e = counted_next p x [] in omega (arith, e)

pub none_pass_it : {A : Type 0} (p : A → Bool) → ((x : A) → p x ≡ false) → (xs : List A) → filter p xs ≡ []
none_pass_it p h [] = refl
none_pass_it p h (x ∷ xs) = ap (λ (b : Bool). if b then x ∷ filter p xs else filter p xs) (h x) ∙ none_pass_it p h xs

none_of_these : {A B : Type 0} (p : B → Bool) (f : A → B) → ((v : A) → p (f v) ≡ false) → (vs : List A) → filter p (map f vs) ≡ []
none_of_these p f h [] = refl
none_of_these p f h (v ∷ vs) = ap (λ (b : Bool). if b then f v ∷ filter p (map f vs) else filter p (map f vs)) (h v) ∙ none_of_these p f h vs

flat_none : {A B : Type 0} (h : A → List B) → ((v : A) → h v ≡ []) → (vs : List A) → flat_map h vs ≡ []
flat_none h t [] = refl
flat_none h t (v ∷ vs) = ap (λ ys. ys ++ flat_map h vs) (t v) ∙ flat_none h t vs

-- ---- the number among those up to another that passes a test which it alone passes

range_none : (u a : ℕ) → nat_le a u && nat_lt u (a + 0) ≡ false
range_none u a = grind (arith, nat_tests)

range_behind : (u a n : ℕ) → u ≡ a → nat_le (a + 1) u && nat_lt u (a + 1 + n) ≡ false
range_behind u a n h = grind (arith, nat_tests)

range_here : (u a n : ℕ) → u ≡ a → nat_le a u && nat_lt u (a + suc n) ≡ true
range_here u a n h = grind (arith, nat_tests)

range_later : (u a n : ℕ) → (u ≡ a → ⊥) → nat_le (a + 1) u && nat_lt u (a + 1 + n) ≡ nat_le a u && nat_lt u (a + suc n)
range_later u a n h = grind (arith, nat_tests)

range_whole : (u l : ℕ) → nat_le 0 u && nat_lt u (0 + (l + 1)) ≡ nat_le u l
range_whole u l = grind (arith, nat_tests)

pub one_from : {B : Type 0} (u : ℕ) (p : B → Bool) (f : ℕ → B) → ((v : ℕ) → p (f v) ≡ (u == v)) → (a n : ℕ) → filter p (map f (range_with_len a n)) ≡ (if nat_le a u && nat_lt u (a + n) then f u ∷ [] else [])
one_from u p f h a zero = sym (ap (λ (b : Bool). if b then f u ∷ [] else []) (range_none u a))
one_from u p f h a (suc n) =
    let rest = filter p (map f (range_with_len (a + 1) n)) in
    elim (eqb_tells u a) [
      | inl t ↦
          ap (λ (b : Bool). if b then f a ∷ rest else rest) (h a ∙ t.0)
          ∙ ap (λ xs. f a ∷ xs) (one_from u p f h (a + 1) n ∙ ap (λ (b : Bool). if b then f u ∷ [] else []) (range_behind u a n t.1))
          ∙ ap (λ v. f v ∷ []) (sym t.1)
          ∙ sym (ap (λ (b : Bool). if b then f u ∷ [] else []) (range_here u a n t.1))
      | inr t ↦
          ap (λ (b : Bool). if b then f a ∷ rest else rest) (h a ∙ t.0)
          ∙ one_from u p f h (a + 1) n ∙ ap (λ (b : Bool). if b then f u ∷ [] else []) (range_later u a n t.1)
    ]

one_of_these : {B : Type 0} (g : Bool) (u : ℕ) (p : B → Bool) (f : ℕ → B) → ((v : ℕ) → p (f v) ≡ g && (u == v)) → (l : ℕ) → filter p (map f (range_with_len 0 (l + 1))) ≡ (if g && nat_le u l then f u ∷ [] else [])
one_of_these true u p f h l = one_from u p f h 0 (l + 1) ∙ ap (λ (b : Bool). if b then f u ∷ [] else []) (range_whole u l)
one_of_these false u p f h l = none_of_these p f h (range_with_len 0 (l + 1))

counted_filter : {B : Type 0} (g : Bool) (u : ℕ) (p : B → Bool) (f : ℕ → B) → ((v : ℕ) → p (f v) ≡ g && (u == v)) → (l : ℕ)
    → length (filter p (map f (range_with_len 0 (l + 1)))) ≡ bit (g && nat_le u l)
counted_filter g u p f t l =
    let one = chosen_length (g && nat_le u l) (f u) [] in
    ap length (one_of_these g u p f t l) ∙ omega (arith, one)

-- ---- steps that are an event, by runs

pub and_true : (a : Bool) → a && true ≡ a
and_true true = refl
and_true false = refl

one_has : (e : Event) (q : Run) → length (filter (same e) (spell q)) ≡ bit (has e q)
one_has e Unseen = refl
one_has e (Sends c v) = one_length (same e) (Some (record { chan = c; dir = Output; value = v })) ∙ ap bit (and_turned (e.chan.0 == c.0) (same_dir e.dir Output) (e.value == v))
one_has e (Takes c n) =
    counted_filter (e.chan.0 == c.0 && same_dir e.dir Input) e.value (same e) (λ v. Some (record { chan = c; dir = Input; value = v })) (λ v. refl) n
    ∙ ap bit (and_turned (e.chan.0 == c.0) (same_dir e.dir Input) (nat_le e.value n))

pub has_length : (e : Event) (qs : List Run) → length (filter (same e) (spelled qs)) ≡ length (filter (has e) qs)
has_length e [] = refl
has_length e (q ∷ qs) =
    ap length (filter-append (same e) (spell q) (spelled qs))
    ∙ length-append (filter (same e) (spell q)) (filter (same e) (spelled qs))
    ∙ ap (λ (n : ℕ). n + length (filter (same e) (spelled qs))) (one_has e q)
    ∙ ap (λ (n : ℕ). bit (has e q) + n) (has_length e qs)
    ∙ sym (counted_next (has e) q qs)

pub answer_length : (e : Event) (qs : List Run) → length (filter (answers (Some e)) (spelled qs)) ≡ length (filter (has (counterpart e)) qs)
answer_length e qs = ap (λ (p : Option Event → Bool). length (filter p (spelled qs))) (fun_ext (answers_same e)) ∙ has_length (counterpart e) qs

abbrev nonzero : ℕ → Bool
nonzero zero = false
nonzero (suc n) = true

any_case : {A : Type 0} (b c : Bool) (x : A) (ys : List A) → c ≡ nonzero (length ys) → b || c ≡ nonzero (length (if b then x ∷ ys else ys))
any_case true c x ys h = refl
any_case false c x ys h = h

any_length : {A : Type 0} (p : A → Bool) (xs : List A) → list_any p xs ≡ nonzero (length (filter p xs))
any_length p [] = refl
any_length p (x ∷ xs) = any_case (p x) (list_any p xs) x (filter p xs) (any_length p xs)

-- whether one step is an event
pub any_has : (e : Event) (qs : List Run) → list_any (same e) (spelled qs) ≡ list_any (has e) qs
any_has e qs = any_length (same e) (spelled qs) ∙ ap nonzero (has_length e qs) ∙ sym (any_length (has e) qs)

-- ---- steps that meet, by runs

pair_count : (r q : Run) → length (met (spell r) (spell q)) ≡ bit (run_meets r q)
pair_count Unseen q = ap (λ (xs : List (Option Event)). length (xs ++ [])) (none_pass_it (answers None) (λ f. refl) (spell q))
pair_count (Sends c v) Unseen = refl
pair_count (Sends c v) (Sends d u) =
    let f : Option Event = Some (record { chan = d; dir = Output; value = u }) in
    ap (λ (b : Bool). length ((if b && (u == v) then f ∷ [] else []) ++ [])) (and_false (d.0 == c.0))
pair_count (Sends c v) (Takes d n) =
    let e : Event = record { chan = c; dir = Output; value = v } in
    let f : ℕ → Option Event = λ w. Some (record { chan = d; dir = Input; value = w }) in
    ap length (append-nil (filter (answers (Some e)) (map f (range_with_len 0 (n + 1)))))
    ∙ counted_filter (c.0 == d.0) v (answers (Some e)) f (λ w. answers_same e (f w) ∙ ap (λ (b : Bool). b && (v == w)) (and_true (c.0 == d.0))) n
pair_count (Takes c n) q = ap length (flat_map-map (λ e. filter (answers e) (spell q)) (λ v. Some (record { chan = c; dir = Input; value = v })) (range_with_len 0 (n + 1))) ∙ taken_count c n q
  where
    takes : Name → ℕ → Event
    takes c v = record { chan = c; dir = Input; value = v }

    taken_count : (c : Name) (n : ℕ) (q : Run) → length (flat_map (λ v. filter (answers (Some (takes c v))) (spell q)) (range_with_len 0 (n + 1))) ≡ bit (run_meets (Takes c n) q)
    taken_count c n Unseen = ap length (flat_none (λ v. filter (answers (Some (takes c v))) (None ∷ [])) (λ v. refl) (range_with_len 0 (n + 1)))
    taken_count c n (Sends d u) =
        let f : Option Event = Some (record { chan = d; dir = Output; value = u }) in
        counted (c.0 == d.0) u (λ v. filter (answers (Some (takes c v))) (f ∷ []))
        (λ v. one_length (answers (Some (takes c v))) f ∙ ap bit (answers_same (takes c v) f ∙ ap (λ (b : Bool). b && (v == u)) (and_true (c.0 == d.0)) ∙ ap (λ (b : Bool). c.0 == d.0 && b) (numbers_same v u))) n
    taken_count c n (Takes d m) =
        ap length (flat_none (λ v. filter (answers (Some (takes c v))) (map (λ w. Some (takes d w)) (range_with_len 0 (m + 1))))
        (λ v. none_of_these (answers (Some (takes c v))) (λ w. Some (takes d w)) (λ w. ap (λ (b : Bool). b && (w == v)) (and_false (d.0 == c.0))) (range_with_len 0 (m + 1))) (range_with_len 0 (n + 1)))

met_second : (es fs gs : List (Option Event)) → length (met es (fs ++ gs)) ≡ length (met es fs) + length (met es gs)
met_second [] fs gs = refl
met_second (e ∷ es) fs gs =
    let whole = length-append (filter (answers e) (fs ++ gs)) (met es (fs ++ gs)) in
    let parts = ap length (filter-append (answers e) fs gs) in
    let both = length-append (filter (answers e) fs) (filter (answers e) gs) in
    let rest = met_second es fs gs in
    let first = length-append (filter (answers e) fs) (met es fs) in
    let second = length-append (filter (answers e) gs) (met es gs) in
    omega (arith, whole, parts, both, rest, first, second)

pub run_count : (r : Run) (qs : List Run) → length (met (spell r) (spelled qs)) ≡ length (filter (run_meets r) qs)
run_count r [] = ap length (flat_none (λ e. filter (answers e) []) (λ e. refl) (spell r))
run_count r (q ∷ qs) =
    met_second (spell r) (spell q) (spelled qs)
    ∙ ap (λ (n : ℕ). n + length (met (spell r) (spelled qs))) (pair_count r q)
    ∙ ap (λ (n : ℕ). bit (run_meets r q) + n) (run_count r qs)
    ∙ sym (counted_next (run_meets r) q qs)

pub pairs_count : (rs qs : List Run) → length (met (spelled rs) (spelled qs)) ≡ length (run_pairs rs qs)
pairs_count [] qs = refl
pairs_count (r ∷ rs) qs =
    ap length (flat_map-append (λ e. filter (answers e) (spelled qs)) (spell r) (spelled rs))
    ∙ length-append (met (spell r) (spelled qs)) (met (spelled rs) (spelled qs))
    ∙ ap (λ (n : ℕ). n + length (met (spelled rs) (spelled qs))) (run_count r qs)
    ∙ ap (λ (n : ℕ). length (filter (run_meets r) qs) + n) (pairs_count rs qs)
    ∙ sym (length-append (filter (run_meets r) qs) (run_pairs rs qs))

-- ---- an event of a list

-- there are such steps
pub one_stands : (e : Event) (front back : List (Option Event)) → length (filter (same e) front) < length (filter (same e) (front ++ Some e ∷ back))
one_stands e front back =
    let whole = ap length (filter-append (same e) front (Some e ∷ back)) in
    let parts = length-append (filter (same e) front) (filter (same e) (Some e ∷ back)) in
    let more = counted_next (same e) (Some e) back in
    let one = ap bit (event_itself e) in
    omega (arith, whole, parts, more, one)
