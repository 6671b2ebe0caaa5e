-- Facts on tests and on lists that the proofs here share.
use Rattle.std.specs.Prelude.{ℕ, ◌≡◌, ◌==◌, Bool, true, false, ◌||◌, if◌then◌else◌, List, [], ◌∷◌}
use Rattle.std.specs.List.{list_any}
use Rattle.std.proofs.Common.{refl, sym, subst, inl, inr}
use Rattle.std.proofs.lemmas.Bool.{eqb-true, eq-eqb, or_cases, or_left, or_right}
use Rattle.occ_parse_scopes.specs.Taken.{is_among}

pub true_not_false : {B : Type 0} → true ≡ false → B
true_not_false h = absurd (cc)

pub false_not_true : {B : Type 0} → false ≡ true → B
false_not_true h = absurd (cc)

pub at_itself : (x : ℕ) → (x == x) ≡ true
at_itself x = eq-eqb x x refl

pub if_true : {A : Type 0} (b : Bool) (x y : A) → b ≡ true → (if b then x else y) ≡ x
if_true true x y h = refl
if_true false x y h = false_not_true h

pub if_false : {A : Type 0} (b : Bool) (x y : A) → b ≡ false → (if b then x else y) ≡ y
if_false true x y h = true_not_false h
if_false false x y h = refl

-- two tests that are true together are one
pub same_truth : (a b : Bool) → (a ≡ true → b ≡ true) → (b ≡ true → a ≡ true) → a ≡ b
same_truth true true f g = refl
same_truth true false f g = sym (f refl)
same_truth false true f g = g refl
same_truth false false f g = refl

-- ---- a number among others

pub among_first : (v : ℕ) (vs : List ℕ) → is_among v (v ∷ vs) ≡ true
among_first v vs = or_left (v == v) (is_among v vs) (at_itself v)

pub among_only : (v u : ℕ) → is_among v (u ∷ []) ≡ true → v ≡ u
among_only v u h = elim (or_cases (v == u) false h) [ inl k ↦ eqb-true v u k | inr k ↦ false_not_true k ]

-- a number that passes a test is among the numbers of which some pass
pub any_at : (f : ℕ → Bool) (vs : List ℕ) (v : ℕ) → is_among v vs ≡ true → f v ≡ true → list_any f vs ≡ true
any_at f [] v h p = false_not_true h
any_at f (u ∷ vs) v h p = elim (or_cases (v == u) (is_among v vs) h) [
  | inl k ↦ or_left (f u) (list_any f vs) (subst (λ w. f w ≡ true) (eqb-true v u k) p)
  | inr k ↦ or_right (f u) (list_any f vs) (any_at f vs v k p)
]

pub any_from : (f : ℕ → Bool) (vs : List ℕ) → list_any f vs ≡ true → (v : ℕ) × (is_among v vs ≡ true) × (f v ≡ true)
any_from f [] h = false_not_true h
any_from f (u ∷ vs) h = elim (or_cases (f u) (list_any f vs) h) [
  | inl k ↦ (u, among_first u vs, k)
  | inr k ↦ let w = any_from f vs k in (w.0, or_right (w.0 == u) (is_among w.0 vs) w.1, w.2)
]

pub any_same : {A : Type 0} (f g : A → Bool) (xs : List A) → ((x : A) → f x ≡ g x) → list_any f xs ≡ list_any g xs
any_same f g [] h = refl
any_same f g (x ∷ xs) h = λ i. h x i || any_same f g xs h i
