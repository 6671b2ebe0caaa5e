-- A test of the indices in scope holds for some of the values that they take together: what that means, and how it is
-- decided where the test looks at no index, at one, or at two.
use Rattle.std.specs.Prelude.{ℕ, zero, suc, ◌≡◌, ◌==◌, Bool, true, false, ◌&&◌, ◌||◌, if◌then◌else◌, List, [], ◌∷◌, Option, Some, None}
use Rattle.std.specs.List.{list_any}
use Rattle.std.proofs.Common.{refl, sym, ap, subst, ◌∙◌, inl, inr}
use Rattle.std.proofs.lemmas.Bool.{or_cases, or_left, or_right, cases_Bool}
use Rattle.std.proofs.lemmas.Bool.Decides.{eqb_tells}
use mathlib.Core.Path.{fun_ext}
use Rattle.occ_parse_forms.specs.declared.form.Declared.{Declared}
use Rattle.occ_parse_forms.specs.declared.form.Declared.TheVariants as declared
use Rattle.occ_parse_rules.specs.declared.sort.Sort.{Sort}
use Rattle.occ_parse_rules.specs.declared.sort.Sort.TheVariants as sort
use Rattle.occ_parse_rules.specs.Places.{Sorts, Indices, values_of, with_index, taken_by, for_some, sort_at, declares}
use Rattle.occ_parse_scopes.specs.Taken.{counted, index_values, is_among, Takes}
use Rattle.occ_parse_scopes.proofs.Facts.{true_not_false, at_itself, if_true, if_false, same_truth, among_first, among_only, any_at, any_from}

-- ---- some value is always taken

a_value_of : (b n : ℕ) → (v : ℕ) × (is_among v (values_of b n) ≡ true)
a_value_of b zero = (b, among_first b [])
a_value_of b (suc n) = (b, among_first b _)

chosen : (c : Bool) (x y : ℕ) (vs ws : List ℕ) → is_among x vs ≡ true → is_among y ws ≡ true → is_among (if c then x else y) (if c then vs else ws) ≡ true
chosen true x y vs ws h k = h
chosen false x y vs ws h k = k

a_counted : (d : Declared) (s : Sort) (j : ℕ) (vs : List ℕ) → (v : ℕ) × (is_among v vs ≡ true) → (v : ℕ) × (is_among v (counted d s j vs) ≡ true)
a_counted (declared.Plain i) (sort.Counter b n) j vs w =
    let v = a_value_of b n in
    ((if j == i.0 then v.0 else w.0), chosen (j == i.0) v.0 w.0 (values_of b n) vs v.1 w.1)
a_counted (declared.Plain i) (sort.Variable width) j vs w = w
a_counted (declared.Plain i) (sort.Channel width mark) j vs w = w
a_counted (declared.Element x k) s j vs w = w
a_counted (declared.Array x n) s j vs w = w

pub a_value : (Γ : Sorts) (j : ℕ) → (v : ℕ) × (is_among v (index_values Γ j) ≡ true)
a_value [] j = (0, refl)
a_value (entry ∷ Γ) j = a_counted entry.declared entry.sort j (index_values Γ j) (a_value Γ j)

pub some_values : (Γ : Sorts) → (ρ : Indices) × Takes Γ ρ
some_values Γ = (λ j. (a_value Γ j).0, λ j. (a_value Γ j).1)

-- another of its values may be put in an index's place
pub takes_with : (Γ : Sorts) (ρ : Indices) (i v : ℕ) → Takes Γ ρ → is_among v (index_values Γ i) ≡ true → Takes Γ (with_index ρ i v)
takes_with Γ ρ i v t h j = elim (eqb_tells j i) [
  | inl k ↦ subst (λ b. is_among (if b then v else ρ j) (index_values Γ j) ≡ true) (sym k.0) (subst (λ m. is_among v (index_values Γ m) ≡ true) (sym k.1) h)
  | inr k ↦ subst (λ b. is_among (if b then v else ρ j) (index_values Γ j) ≡ true) (sym k.0) (t j)
]

pub index_here : (ρ : Indices) (i v : ℕ) → with_index ρ i v i ≡ v
index_here ρ i v = if_true (i == i) v (ρ i) (at_itself i)

pub index_off : (ρ : Indices) (i v j : ℕ) → (j == i) ≡ false → with_index ρ i v j ≡ ρ j
index_off ρ i v j h = if_false (j == i) v (ρ j) h

index_kept : (ρ : Indices) (i u : ℕ) → with_index (with_index ρ i u) i (ρ i) ≡ ρ
index_kept ρ i u = fun_ext (λ j. elim (eqb_tells j i) [
  | inl k ↦ ap (λ b. if b then ρ i else (if b then u else ρ j)) k.0 ∙ ap ρ (sym k.1)
  | inr k ↦ ap (λ b. if b then ρ i else (if b then u else ρ j)) k.0
])

-- ---- for some values

forth : (d : Declared) (s : Sort) (Γ : Sorts) (test : Indices → Bool) (ρ : Indices) → Takes Γ ρ → taken_by d s test ρ ≡ true → (r : Indices) × ((j : ℕ) → is_among (r j) (counted d s j (index_values Γ j)) ≡ true) × (test r ≡ true)
forth (declared.Plain i) (sort.Counter b n) Γ test ρ t h =
    let w = any_from (λ v. test (with_index ρ i.0 v)) (values_of b n) h in
    (with_index ρ i.0 w.0, λ j. chosen (j == i.0) w.0 (ρ j) (values_of b n) (index_values Γ j) w.1 (t j), w.2)
forth (declared.Plain i) (sort.Variable width) Γ test ρ t h = (ρ, t, h)
forth (declared.Plain i) (sort.Channel width mark) Γ test ρ t h = (ρ, t, h)
forth (declared.Element x k) s Γ test ρ t h = (ρ, t, h)
forth (declared.Array x n) s Γ test ρ t h = (ρ, t, h)

-- a test that holds for some values holds for a list of values that the indices take
pub found : (Γ : Sorts) (test : Indices → Bool) → for_some Γ test ≡ true → (ρ : Indices) × Takes Γ ρ × (test ρ ≡ true)
found [] test h = (λ j. 0, λ j. refl, h)
found (entry ∷ Γ) test h =
    let w = found Γ (taken_by entry.declared entry.sort test) h in
    forth entry.declared entry.sort Γ test w.0 w.1 w.2

at_counter : (i j b n : ℕ) (v : ℕ) (vs : List ℕ) → (j == i) ≡ true → is_among v (if j == i then values_of b n else vs) ≡ true → is_among v (values_of b n) ≡ true
at_counter i j b n v vs e h = subst (λ ws. is_among v ws ≡ true) (if_true (j == i) (values_of b n) vs e) h

off_counter : (i j b n : ℕ) (v : ℕ) (vs : List ℕ) → (j == i) ≡ false → is_among v (if j == i then values_of b n else vs) ≡ true → is_among v vs ≡ true
off_counter i j b n v vs e h = subst (λ ws. is_among v ws ≡ true) (if_false (j == i) (values_of b n) vs e) h

put_back : (Γ : Sorts) (ρ : Indices) (i b n u : ℕ) → ((j : ℕ) → is_among (ρ j) (if j == i then values_of b n else index_values Γ j) ≡ true) → is_among u (index_values Γ i) ≡ true → Takes Γ (with_index ρ i u)
put_back Γ ρ i b n u t h j = elim (eqb_tells j i) [
  | inl k ↦ subst (λ c. is_among (if c then u else ρ j) (index_values Γ j) ≡ true) (sym k.0) (subst (λ m. is_among u (index_values Γ m) ≡ true) (sym k.1) h)
  | inr k ↦ subst (λ c. is_among (if c then u else ρ j) (index_values Γ j) ≡ true) (sym k.0) (off_counter i j b n (ρ j) (index_values Γ j) k.0 (t j))
]

back : (d : Declared) (s : Sort) (Γ : Sorts) (test : Indices → Bool) (ρ : Indices) → ((j : ℕ) → is_among (ρ j) (counted d s j (index_values Γ j)) ≡ true) → test ρ ≡ true → (r : Indices) × Takes Γ r × (taken_by d s test r ≡ true)
back (declared.Plain i) (sort.Counter b n) Γ test ρ t h =
    let u = a_value Γ i.0 in (
      with_index ρ i.0 u.0,
      put_back Γ ρ i.0 b n u.0 t u.1,
      any_at (λ v. test (with_index (with_index ρ i.0 u.0) i.0 v)) (values_of b n) (ρ i.0) (at_counter i.0 i.0 b n (ρ i.0) (index_values Γ i.0) (at_itself i.0) (t i.0)) (subst (λ r. test r ≡ true) (sym (index_kept ρ i.0 u.0)) h),
    )
back (declared.Plain i) (sort.Variable width) Γ test ρ t h = (ρ, t, h)
back (declared.Plain i) (sort.Channel width mark) Γ test ρ t h = (ρ, t, h)
back (declared.Element x k) s Γ test ρ t h = (ρ, t, h)
back (declared.Array x n) s Γ test ρ t h = (ρ, t, h)

-- a test that holds for a list of values that the indices take holds for some
pub taken : (Γ : Sorts) (test : Indices → Bool) (ρ : Indices) → Takes Γ ρ → test ρ ≡ true → for_some Γ test ≡ true
taken [] test ρ t h = let e : ρ ≡ (λ j. 0) = fun_ext (λ j. among_only (ρ j) 0 (t j)) in subst (λ r. test r ≡ true) e h
taken (entry ∷ Γ) test ρ t h =
    let w = back entry.declared entry.sort Γ test ρ t h in
    taken Γ (taken_by entry.declared entry.sort test) w.0 w.1 w.2

-- a test that holds for no values is false for each list of values that the indices take
pub never : (Γ : Sorts) (test : Indices → Bool) → for_some Γ test ≡ false → (ρ : Indices) → Takes Γ ρ → test ρ ≡ false
never Γ test h ρ t = elim (cases_Bool (test ρ)) [ inl k ↦ true_not_false (sym (taken Γ test ρ t k) ∙ h) | inr k ↦ k ]

-- tests that agree on the values that the indices take
pub for_some_same : (Γ : Sorts) (f g : Indices → Bool) → ((ρ : Indices) → Takes Γ ρ → f ρ ≡ g ρ) → for_some Γ f ≡ for_some Γ g
for_some_same Γ f g h = same_truth (for_some Γ f) (for_some Γ g)
    (λ k. let w = found Γ f k in taken Γ g w.0 w.1 (sym (h w.0 w.1) ∙ w.2))
    (λ k. let w = found Γ g k in taken Γ f w.0 w.1 (h w.0 w.1 ∙ w.2))

-- a test that looks at no index
pub for_some_still : (Γ : Sorts) (b : Bool) → for_some Γ (λ ρ. b) ≡ b
for_some_still Γ b = same_truth (for_some Γ (λ ρ. b)) b
    (λ k. (found Γ (λ ρ. b) k).2)
    (λ k. let w = some_values Γ in taken Γ (λ ρ. b) w.0 w.1 k)

-- one that looks at one index
pub for_some_one : (Γ : Sorts) (i : ℕ) (f : ℕ → Bool) → for_some Γ (λ ρ. f (ρ i)) ≡ list_any f (index_values Γ i)
for_some_one Γ i f = same_truth (for_some Γ (λ ρ. f (ρ i))) (list_any f (index_values Γ i))
    (λ k. let w = found Γ (λ ρ. f (ρ i)) k in any_at f (index_values Γ i) (w.0 i) (w.1 i) w.2)
    (λ k.
    let w = any_from f (index_values Γ i) k in
    let r = some_values Γ in
    taken Γ (λ ρ. f (ρ i)) (with_index r.0 i w.0) (takes_with Γ r.0 i w.0 r.1 w.1) (subst (λ v. f v ≡ true) (sym (index_here r.0 i w.0)) w.2))

-- one that looks at two indices
pub for_some_two : (Γ : Sorts) (i j : ℕ) (f : ℕ → ℕ → Bool) → (i == j) ≡ false → for_some Γ (λ ρ. f (ρ i) (ρ j)) ≡ list_any (λ v. list_any (f v) (index_values Γ j)) (index_values Γ i)
for_some_two Γ i j f off = same_truth (for_some Γ (λ ρ. f (ρ i) (ρ j))) (list_any (λ v. list_any (f v) (index_values Γ j)) (index_values Γ i))
    (λ k.
    let w = found Γ (λ ρ. f (ρ i) (ρ j)) k in
    any_at (λ v. list_any (f v) (index_values Γ j)) (index_values Γ i) (w.0 i) (w.1 i) (any_at (f (w.0 i)) (index_values Γ j) (w.0 j) (w.1 j) w.2))
    (λ k.
    let v = any_from (λ v. list_any (f v) (index_values Γ j)) (index_values Γ i) k in
    let u = any_from (f v.0) (index_values Γ j) v.2 in
    let r = some_values Γ in
    let first : Indices = with_index r.0 i v.0 in
    let second : Indices = with_index first j u.0 in
    let takes = takes_with Γ first j u.0 (takes_with Γ r.0 i v.0 r.1 v.1) u.1 in
    let here : second i ≡ v.0 = index_off first j u.0 i off ∙ index_here r.0 i v.0 in
    taken Γ (λ ρ. f (ρ i) (ρ j)) second takes (subst (λ a. f a (second j) ≡ true) (sym here) (subst (λ b. f v.0 b ≡ true) (sym (index_here first j u.0)) u.2)))

-- one of two tests
pub for_some_or : (Γ : Sorts) (f g : Indices → Bool) → for_some Γ (λ ρ. f ρ || g ρ) ≡ (for_some Γ f || for_some Γ g)
for_some_or Γ f g = same_truth (for_some Γ (λ ρ. f ρ || g ρ)) (for_some Γ f || for_some Γ g)
    (λ k.
    let w = found Γ (λ ρ. f ρ || g ρ) k in
    elim (or_cases (f w.0) (g w.0) w.2) [
      | inl e ↦ or_left (for_some Γ f) (for_some Γ g) (taken Γ f w.0 w.1 e)
      | inr e ↦ or_right (for_some Γ f) (for_some Γ g) (taken Γ g w.0 w.1 e)
    ])
    (λ k. elim (or_cases (for_some Γ f) (for_some Γ g) k) [
      | inl e ↦ let w = found Γ f e in taken Γ (λ ρ. f ρ || g ρ) w.0 w.1 (or_left (f w.0) (g w.0) w.2)
      | inr e ↦ let w = found Γ g e in taken Γ (λ ρ. f ρ || g ρ) w.0 w.1 (or_right (f w.0) (g w.0) w.2)
    ])

-- a test under a condition that looks at no index
pub for_some_and : (Γ : Sorts) (b : Bool) (f : Indices → Bool) → for_some Γ (λ ρ. b && f ρ) ≡ (b && for_some Γ f)
for_some_and Γ true f = refl
for_some_and Γ false f = for_some_still Γ false

-- ---- the values of a replicator in scope

counter_step : (d : Declared) (s : Sort) (j b n : ℕ) (o : Option Sort) (vs : List ℕ) → (o ≡ Some (sort.Counter b n) → vs ≡ values_of b n) → (if declares d j None then Some s else o) ≡ Some (sort.Counter b n) → counted d s j vs ≡ values_of b n
counter_step (declared.Plain i) (sort.Counter a m) j b n o vs more h = by_test (j == i.0) h
  where
    by_test : (c : Bool) → (if c then Some (sort.Counter a m) else o) ≡ Some (sort.Counter b n) → (if c then values_of a m else vs) ≡ values_of b n
    by_test true k = let p : a ≡ b = cc in let q : m ≡ n = cc in λ l. values_of (p l) (q l)
    by_test false k = more k
counter_step (declared.Plain i) (sort.Variable width) j b n o vs more h = by_test (j == i.0) h
  where
    by_test : (c : Bool) → (if c then Some (sort.Variable width) else o) ≡ Some (sort.Counter b n) → vs ≡ values_of b n
    by_test true k = absurd (cc)
    by_test false k = more k
counter_step (declared.Plain i) (sort.Channel width mark) j b n o vs more h = by_test (j == i.0) h
  where
    by_test : (c : Bool) → (if c then Some (sort.Channel width mark) else o) ≡ Some (sort.Counter b n) → vs ≡ values_of b n
    by_test true k = absurd (cc)
    by_test false k = more k
counter_step (declared.Element x k) s j b n o vs more h = more h
counter_step (declared.Array x m) s j b n o vs more h = more h

-- an index in scope takes the values of its replicator
pub counter_values : (Γ : Sorts) (j b n : ℕ) → sort_at Γ j None ≡ Some (sort.Counter b n) → index_values Γ j ≡ values_of b n
counter_values [] j b n h = absurd (cc)
counter_values (entry ∷ Γ) j b n h = counter_step entry.declared entry.sort j b n (sort_at Γ j None) (index_values Γ j) (counter_values Γ j b n) h
